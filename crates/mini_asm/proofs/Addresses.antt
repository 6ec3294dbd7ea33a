-- An operand is read again from its text.
use Rattle.std.specs.Prelude.{if◌then◌else◌, codes, decimal}
use Rattle.std.specs.Fmt.{digits}
use Rattle.std.specs.Option.{option_map_or}
use Rattle.std.proofs.Common.{◌≡◌, ℕ, ◌^◌, ◌<◌, ◌==◌, Bool, true, false, List, [], ◌∷◌, ◌++◌, Option, Some, None, option_map, option_and_then, refl, sym, ap, ◌∙◌, append_assoc}
use Rattle.std.proofs.lemmas.Bool.{eqb-true}
use Rattle.mv_base.specs.Reading.{behind}
use Rattle.x86_insn.specs.declared.insn.Mem.{Mem}
use Rattle.x86_insn.specs.declared.insn.Reg.{Reg}
use Rattle.x86_insn.specs.declared.insn.Reg.TheVariants.{Eax, Ecx, Edx, Ebx, Esp, Ebp, Esi, Edi}
use Rattle.x86_insn.specs.declared.insn.Width.{Width}
use Rattle.x86_insn.specs.declared.insn.Width.TheVariants.{B, W, D}
use Rattle.insn_text.specs.declared.operand.Operand.{Operand}
use Rattle.insn_text.specs.declared.operand.Operand.TheVariants.{Register, Memory, Address, Number, Gs}
use Rattle.insn_text.specs.Names.{register_name, segment_word, width_word}
use Rattle.insn_text.specs.Text.{address_text, bracket, displaced, index_text, number, operand_text, rest_text}
use Rattle.mini_asm.specs.declared.operands.Part.TheVariants.{Base, Index, Displacement}
use Rattle.mini_asm.specs.Words.{number_at}
use Rattle.mini_asm.specs.Operands.{register_at, low_register_at, high_register_at, factor_at, register_part, part_at, no_part, with_part, third_part, second_part, parts_at, closed_at, bracket_at, memory_at, register_operand, address_operand, number_operand, gs_operand, plain_at, operand_at, if_done, last_operand, next_operands, operands_in}
use Rattle.mini_asm.proofs.Kept.{Factor, One, Two, Four, Eight, IndexKept, MemKept}
use Rattle.mini_asm.proofs.Numbers.{Ends, number-again}

register-again : (w : Width) (r : Reg) (s : List ℕ) → register_at w (register_name w r ++ s) ≡ Some (r, s)
unfolding register_at low_register_at high_register_at behind
register-again B Eax s = refl
register-again B Ecx s = refl
register-again B Edx s = refl
register-again B Ebx s = refl
register-again B Esp s = refl
register-again B Ebp s = refl
register-again B Esi s = refl
register-again B Edi s = refl
register-again W Eax s = refl
register-again W Ecx s = refl
register-again W Edx s = refl
register-again W Ebx s = refl
register-again W Esp s = refl
register-again W Ebp s = refl
register-again W Esi s = refl
register-again W Edi s = refl
register-again D Eax s = refl
register-again D Ecx s = refl
register-again D Edx s = refl
register-again D Ebx s = refl
register-again D Esp s = refl
register-again D Ebp s = refl
register-again D Esi s = refl
register-again D Edi s = refl

-- ---- parts

-- a part that begins with a register
from-register : (r : Reg) (s : List ℕ) → part_at (register_name D r ++ s) ≡ register_part r s
unfolding part_at
from-register r s =
    ap (λ o. option_map_or (λ p. register_part p.0 p.1) o (option_map (λ p. (Displacement p.0, p.1)) (number_at (register_name D r ++ s)))) (register-again D r s)

base-again : (r : Reg) (s : List ℕ) → behind (codes "*") s ≡ None → part_at (register_name D r ++ s) ≡ Some (Base r, s)
unfolding register_part
base-again r s other =
    from-register r s ∙ ap (λ o. option_map_or (λ rest. option_map (λ p. (Index r p.0, p.1)) (factor_at rest)) o (Some (Base r, s))) other

factor-again : (f : ℕ) (s : List ℕ) → Factor f → factor_at (decimal f ++ s) ≡ Some (f, s)
unfolding factor_at digits
factor-again _ s One = refl
factor-again _ s Two = refl
factor-again _ s Four = refl
factor-again _ s Eight = refl

index-again : (r : Reg) (f : ℕ) (s : List ℕ) → Factor f → part_at (index_text (r, f) ++ s) ≡ Some (Index r f, s)
unfolding register_part behind
index-again r f s factor =
    ap part_at (append_assoc (register_name D r ++ codes "*") (decimal f) s ∙ append_assoc (register_name D r) (codes "*") (decimal f ++ s))
    ∙ from-register r (codes "*" ++ (decimal f ++ s))
    ∙ ap (option_map (λ p. (Index r p.0, p.1))) (factor-again f s factor)

displacement-again : (n : ℕ) (s : List ℕ) → n < 2 ^ 32 → Ends s → part_at (number n ++ s) ≡ Some (Displacement n, s)
unfolding part_at register_at low_register_at high_register_at behind
displacement-again n s small ends = ap (option_map (λ p. (Displacement p.0, p.1))) (number-again n s small ends)

-- ---- addresses

-- a displacement behind another part: none where it is 0
ended : (next : List ℕ → Option (Mem × List ℕ)) (m : Mem) (n : ℕ) (s : List ℕ) → m.disp ≡ 0
    → next (number n ++ 93 ∷ s) ≡ Some (record m { disp = n }, 93 ∷ s)
    → option_map_or next (behind (codes "+") (displaced n ++ 93 ∷ s)) (Some (m, displaced n ++ 93 ∷ s)) ≡ Some (record m { disp = n }, 93 ∷ s)
unfolding behind
ended next m n s none is = go (n == 0) refl where
  go : (b : Bool) → (n == 0) ≡ b
      → option_map_or next (behind (codes "+") ((if b then [] else codes "+" ++ number n) ++ 93 ∷ s)) (Some (m, (if b then [] else codes "+" ++ number n) ++ 93 ∷ s)) ≡ Some (record m { disp = n }, 93 ∷ s)
  go true nothing = let e : m.disp ≡ n = none ∙ sym (eqb-true n 0 nothing) in ap (λ d. Some (record m { disp = d }, 93 ∷ s)) e
  go false some = is

-- what may follow a base
no-factor : (n : ℕ) (s : List ℕ) → behind (codes "*") (displaced n ++ 93 ∷ s) ≡ None
unfolding behind
no-factor n s = go (n == 0) where
  go : (b : Bool) → behind (codes "*") ((if b then [] else codes "+" ++ number n) ++ 93 ∷ s) ≡ None
  go true = refl
  go false = refl

third-again : (m : Mem) (n : ℕ) (s : List ℕ) → n < 2 ^ 32 → third_part m (number n ++ 93 ∷ s) ≡ Some (record m { disp = n }, 93 ∷ s)
unfolding third_part
third-again m n s small = ap (option_map (λ p. (with_part m p.0, p.1))) (displacement-again n (93 ∷ s) small refl)

second-number : (m : Mem) (n : ℕ) (s : List ℕ) → n < 2 ^ 32 → second_part m (number n ++ 93 ∷ s) ≡ Some (record m { disp = n }, 93 ∷ s)
unfolding second_part behind
second-number m n s small =
    ap (option_and_then (λ p. option_map_or (λ rest. third_part (with_part m p.0) rest) (behind (codes "+") p.1) (Some (with_part m p.0, p.1))))
    (displacement-again n (93 ∷ s) small refl)

second-index : (m : Mem) (r : Reg) (f n : ℕ) (s : List ℕ) → Factor f → n < 2 ^ 32 → m.disp ≡ 0
    → second_part m (index_text (r, f) ++ (displaced n ++ 93 ∷ s)) ≡ Some (record m { index = Some (r, f); disp = n }, 93 ∷ s)
unfolding second_part
second-index m r f n s factor small none =
    let k = with_part m (Index r f) in
    ap (option_and_then (λ p. option_map_or (λ rest. third_part (with_part m p.0) rest) (behind (codes "+") p.1) (Some (with_part m p.0, p.1))))
    (index-again r f (displaced n ++ 93 ∷ s) factor)
    ∙ ended (λ rest. third_part k rest) k n s none (third-again k n s small)

address-again : (gs : Bool) (base : Option Reg) (index : Option (Reg × ℕ)) (n : ℕ) (s : List ℕ) → n < 2 ^ 32 → IndexKept index
    → parts_at (no_part gs) (address_text base index n ++ 93 ∷ s) ≡ Some (record { base = base; index = index; gs = gs; disp = n }, 93 ∷ s)
unfolding parts_at behind
address-again gs None None n s small factor =
    ap (option_and_then (λ p. option_map_or (λ rest. second_part (with_part (no_part gs) p.0) rest) (behind (codes "+") p.1) (Some (with_part (no_part gs) p.0, p.1))))
    (displacement-again n (93 ∷ s) small refl)
address-again gs None (Some p) n s small factor =
    let k = with_part (no_part gs) (Index p.0 p.1) in
    ap (parts_at (no_part gs)) (append_assoc (index_text p) (displaced n) (93 ∷ s))
    ∙ ap (option_and_then (λ p. option_map_or (λ rest. second_part (with_part (no_part gs) p.0) rest) (behind (codes "+") p.1) (Some (with_part (no_part gs) p.0, p.1))))
    (index-again p.0 p.1 (displaced n ++ 93 ∷ s) factor)
    ∙ ended (λ rest. second_part k rest) k n s refl (second-number k n s small)
address-again gs (Some b) None n s small factor =
    let k = with_part (no_part gs) (Base b) in
    ap (parts_at (no_part gs)) (append_assoc (register_name D b) (displaced n) (93 ∷ s))
    ∙ ap (option_and_then (λ p. option_map_or (λ rest. second_part (with_part (no_part gs) p.0) rest) (behind (codes "+") p.1) (Some (with_part (no_part gs) p.0, p.1))))
    (base-again b (displaced n ++ 93 ∷ s) (no-factor n s))
    ∙ ended (λ rest. second_part k rest) k n s refl (second-number k n s small)
address-again gs (Some b) (Some p) n s small factor =
    let k = with_part (no_part gs) (Base b) in
    let rest = index_text p ++ (displaced n ++ 93 ∷ s) in
    ap (parts_at (no_part gs)) (
    append_assoc (register_name D b ++ codes "+" ++ index_text p) (displaced n) (93 ∷ s)
    ∙ append_assoc (register_name D b ++ codes "+") (index_text p) (displaced n ++ 93 ∷ s)
    ∙ append_assoc (register_name D b) (codes "+") rest)
    ∙ ap (option_and_then (λ p. option_map_or (λ rest. second_part (with_part (no_part gs) p.0) rest) (behind (codes "+") p.1) (Some (with_part (no_part gs) p.0, p.1))))
    (base-again b (codes "+" ++ rest) refl)
    ∙ second-index k p.0 p.1 n s factor small refl

-- ---- operands

closed-again : (m : Mem) (s : List ℕ) → MemKept m
    → closed_at m.gs ((address_text m.base m.index m.disp ++ codes "]") ++ s) ≡ Some (m, s)
unfolding closed_at behind
closed-again m s kept =
    ap (closed_at m.gs) (append_assoc (address_text m.base m.index m.disp) (codes "]") s)
    ∙ ap (option_and_then (λ p. option_map (λ rest. (p.0, rest)) (behind (codes "]") p.1))) (address-again m.gs m.base m.index m.disp s kept.low kept.factor)

bracket-again : (m : Mem) (s : List ℕ) → MemKept m → bracket_at (bracket m ++ s) ≡ Some (m, s)
unfolding bracket_at behind
bracket-again m s kept = go m.gs refl where
  go : (g : Bool) → m.gs ≡ g → bracket_at (bracket m ++ s) ≡ Some (m, s)
  go true is =
      ap (λ g. bracket_at ((segment_word g ++ codes "[" ++ address_text m.base m.index m.disp ++ codes "]") ++ s)) is
      ∙ ap (λ g. closed_at g ((address_text m.base m.index m.disp ++ codes "]") ++ s)) (sym is)
      ∙ closed-again m s kept
  go false is =
      ap (λ g. bracket_at ((segment_word g ++ codes "[" ++ address_text m.base m.index m.disp ++ codes "]") ++ s)) is
      ∙ ap (λ g. closed_at g ((address_text m.base m.index m.disp ++ codes "]") ++ s)) (sym is)
      ∙ closed-again m s kept

abbrev pub OperandKept : Operand → Type 0
OperandKept (Register w r) = Unit {0}
OperandKept (Memory w m) = MemKept m
OperandKept (Address m) = MemKept m
OperandKept (Number n) = n < 2 ^ 32
OperandKept Gs = Unit {0}

rest-ends : (os : List Operand) → Ends (rest_text os)
rest-ends [] = tt
rest-ends (o ∷ os) = refl

register-operand : (w : Width) (r : Reg) (s : List ℕ) → operand_at (register_name w r ++ s) ≡ Some (Register w r, s)
unfolding operand_at plain_at address_operand bracket_at register_operand register_at low_register_at high_register_at behind
register-operand B Eax s = refl
register-operand B Ecx s = refl
register-operand B Edx s = refl
register-operand B Ebx s = refl
register-operand B Esp s = refl
register-operand B Ebp s = refl
register-operand B Esi s = refl
register-operand B Edi s = refl
register-operand W Eax s = refl
register-operand W Ecx s = refl
register-operand W Edx s = refl
register-operand W Ebx s = refl
register-operand W Esp s = refl
register-operand W Ebp s = refl
register-operand W Esi s = refl
register-operand W Edi s = refl
register-operand D Eax s = refl
register-operand D Ecx s = refl
register-operand D Edx s = refl
register-operand D Ebx s = refl
register-operand D Esp s = refl
register-operand D Ebp s = refl
register-operand D Esi s = refl
register-operand D Edi s = refl

memory-operand : (w : Width) (m : Mem) (s : List ℕ) → MemKept m → operand_at ((width_word w ++ bracket m) ++ s) ≡ Some (Memory w m, s)
unfolding operand_at behind memory_at
memory-operand B m s kept = ap (option_map (λ p. (Memory B p.0, p.1))) (bracket-again m s kept)
memory-operand W m s kept = ap (option_map (λ p. (Memory W p.0, p.1))) (bracket-again m s kept)
memory-operand D m s kept = ap (option_map (λ p. (Memory D p.0, p.1))) (bracket-again m s kept)

-- a bracket is no word
address-plain : (g : Bool) (t : List ℕ) → operand_at (segment_word g ++ codes "[" ++ t) ≡ plain_at (segment_word g ++ codes "[" ++ t)
unfolding operand_at behind
address-plain true t = refl
address-plain false t = refl

or-some : {A : Type 0} (o other : Option A) (x : A) → o ≡ Some x → option_map_or Some o other ≡ Some x
or-some o other x is = ap (λ (p : Option _). option_map_or Some p other) is

address-again-operand : (m : Mem) (s : List ℕ) → MemKept m → operand_at (bracket m ++ s) ≡ Some (Address m, s)
unfolding plain_at address_operand
address-again-operand m s kept =
    let whole =
    append_assoc (segment_word m.gs ++ codes "[" ++ address_text m.base m.index m.disp) (codes "]") s
    ∙ append_assoc (segment_word m.gs ++ codes "[") (address_text m.base m.index m.disp) (codes "]" ++ s) in
    ap operand_at whole
    ∙ address-plain m.gs (address_text m.base m.index m.disp ++ (codes "]" ++ s))
    ∙ ap plain_at (sym whole)
    ∙ or-some (address_operand (bracket m ++ s)) _ (Address m, s) (ap (option_map (λ p. (Address p.0, p.1))) (bracket-again m s kept))

number-operand : (n : ℕ) (s : List ℕ) → n < 2 ^ 32 → Ends s → operand_at (number n ++ s) ≡ Some (Number n, s)
unfolding operand_at plain_at address_operand bracket_at register_operand register_at low_register_at high_register_at number_operand behind
number-operand n s small ends =
    ap (λ o. option_map_or Some (option_map (λ p. (Number p.0, p.1)) o) (gs_operand (number n ++ s))) (number-again n s small ends)

gs-again : (os : List Operand) → operand_at (operand_text Gs ++ rest_text os) ≡ Some (Gs, rest_text os)
unfolding operand_at plain_at address_operand bracket_at register_operand register_at low_register_at high_register_at number_operand number_at gs_operand behind
gs-again [] = refl
gs-again (o ∷ os) = refl

pub operand-again : (o : Operand) (os : List Operand) → OperandKept o → operand_at (operand_text o ++ rest_text os) ≡ Some (o, rest_text os)
operand-again (Register w r) os kept = register-operand w r (rest_text os)
operand-again (Memory w m) os kept = memory-operand w m (rest_text os) kept
operand-again (Address m) os kept = address-again-operand m (rest_text os) kept
operand-again (Number n) os kept = number-operand n (rest_text os) kept (rest-ends os)
operand-again Gs os kept = gs-again os

-- ---- all operands

pub one-again : (a : Operand) → OperandKept a → operands_in (operand_text a ++ rest_text []) ≡ Some (a ∷ [])
unfolding operands_in
one-again a ka =
    ap (option_and_then (λ p. if_done p.1 (Some (p.0 ∷ [])) (option_and_then (λ rest. next_operands p.0 rest) (behind (codes ",") p.1)))) (operand-again a [] ka)

comma : (o : Operand) (os : List Operand) → rest_text (o ∷ os) ≡ 44 ∷ (operand_text o ++ rest_text os)
comma o os = refl

pub two-again : (a b : Operand) → OperandKept a → OperandKept b → operands_in (operand_text a ++ rest_text (b ∷ [])) ≡ Some (a ∷ b ∷ [])
unfolding operands_in next_operands behind
two-again a b ka kb =
    ap (option_and_then (λ p. if_done p.1 (Some (p.0 ∷ [])) (option_and_then (λ rest. next_operands p.0 rest) (behind (codes ",") p.1)))) (operand-again a (b ∷ []) ka)
    ∙ ap (option_and_then (λ p. if_done p.1 (Some (a ∷ p.0 ∷ [])) (option_and_then (λ rest. last_operand a p.0 rest) (behind (codes ",") p.1)))) (operand-again b [] kb)

pub three-again : (a b c : Operand) → OperandKept a → OperandKept b → OperandKept c → operands_in (operand_text a ++ rest_text (b ∷ c ∷ [])) ≡ Some (a ∷ b ∷ c ∷ [])
unfolding operands_in next_operands last_operand behind
three-again a b c ka kb kc =
    ap (option_and_then (λ p. if_done p.1 (Some (p.0 ∷ [])) (option_and_then (λ rest. next_operands p.0 rest) (behind (codes ",") p.1)))) (operand-again a (b ∷ c ∷ []) ka)
    ∙ ap (option_and_then (λ p. if_done p.1 (Some (a ∷ p.0 ∷ [])) (option_and_then (λ rest. last_operand a p.0 rest) (behind (codes ",") p.1)))) (operand-again b (c ∷ []) kb)
    ∙ ap (option_and_then (λ p. if_done p.1 (Some (a ∷ b ∷ p.0 ∷ [])) None)) (operand-again c [] kc)
