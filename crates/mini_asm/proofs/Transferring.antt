-- Direct transfers: their bytes, and their text at any address.
use Rattle.std.specs.Prelude.{nat_lt, nat_le, if◌then◌else◌, ◌&&◌}
use Rattle.std.specs.Option.{option_map_or}
use Rattle.std.proofs.Common.{◌≡◌, ℕ, ◌+◌, ◌-◌, ◌%◌, ◌^◌, ◌<◌, ◌≤◌, Bool, true, false, List, [], ◌∷◌, ◌++◌, length, Option, Some, None, refl, sym, ap, ◌∙◌, subst, arith, ◌⊎◌, inl, inr}
use Rattle.std.proofs.lemmas.Bool.{eq-eqb, lt-ltb, false≢true}
use Rattle.std.proofs.lemmas.Bool.Decides.{nat_tests}
use Rattle.std.proofs.lemmas.List.{length-append}
use Rattle.mv_base.specs.Bytes.{word}
use Rattle.mv_base.specs.Memory.{address_after, distance}
use Rattle.x86_insn.specs.declared.insn.Cond.{Cond}
use Rattle.x86_insn.specs.declared.insn.Cond.TheVariants as cond
use Rattle.x86_insn.specs.declared.insn.Insn.{Insn}
use Rattle.x86_insn.specs.declared.insn.Insn.TheVariants as insn
use Rattle.x86_insn.specs.declared.insn.LoopKind.{LoopKind}
use Rattle.x86_insn.specs.declared.insn.LoopKind.TheVariants as loop
use Rattle.x86_insn.specs.declared.insn.Width.TheVariants.{D}
use Rattle.x86_insn.specs.Spelling.{lead_bytes, signed_byte, Spells}
use Rattle.x86_encode.specs.Address.{dword_bytes}
use Rattle.x86_encode.specs.Assembling.{assembled, behind, both}
use Rattle.x86_encode.specs.Candidates.{general, special}
use Rattle.x86_encode.specs.Encoding.{IsLeast, IsLeastOf}
use Rattle.x86_encode.specs.Least.{by_rows, least, lesser}
use Rattle.x86_encode.specs.Order.{is_upto}
use Rattle.x86_encode.specs.Slots.{byte_row, full_row, short_row}
use Rattle.x86_encode.specs.laws.Chosen.{least_of, one_least}
use Rattle.insn_text.specs.declared.operand.Operand.TheVariants.{Number}
use Rattle.insn_text.specs.Names.{stem, ending}
use Rattle.insn_text.specs.Text.{operands_text, text_of}
use Rattle.mini_asm.specs.Building.{relative}
use Rattle.mini_asm.specs.Faults.{HasLength, LeastOfLength}
use Rattle.mini_asm.specs.Forms.{IsTransfer}
use Rattle.mini_asm.specs.Lines.{HasSpelling, IsJudged}
use Rattle.mini_asm.specs.Sources.{Takes, target}
use Rattle.mini_asm.specs.Spots.{is_long, with_target}
use Rattle.mini_asm.specs.Writing.{written}

some-lesser : (s : List ℕ) (o : Option (List ℕ)) → (t : List ℕ) × (lesser (lesser None (lesser (Some s) o)) None ≡ Some t)
some-lesser s None = (s, refl)
some-lesser s (Some t) = go (is_upto s t) where
  go : (b : Bool) → (u : List ℕ) × (lesser (lesser None (if b then Some s else Some t)) None ≡ Some u)
  go true = (s, refl)
  go false = (t, refl)

-- ---- what is least

abbrev Has : Insn → Type 0
Has i = (s : List ℕ) × (least i ≡ Some s)

least-call : (rel : ℕ) → rel < 2 ^ 32 → least (insn.Call rel) ≡ Some (0xE8 ∷ dword_bytes rel)
unfolding least by_rows general special byte_row full_row short_row assembled
least-call rel low = ap (λ b. lesser (lesser None (lesser (behind (0xE8 ∷ []) (both (Some []) (if b then Some (dword_bytes rel) else None))) None)) None) (lt-ltb rel (2 ^ 32) low)

-- with four bytes of displacement, and maybe with one
has-long : (rel : ℕ) (front : List ℕ) (short : Option (List ℕ)) (i : Insn) → rel < 2 ^ 32
    → least i ≡ lesser (lesser None (lesser (behind front (both (Some []) (if nat_lt rel (2 ^ 32) then Some (dword_bytes rel) else None))) short)) None → Has i
has-long rel front short i low is =
    let some = some-lesser (front ++ dword_bytes rel) short in
    (some.0, is ∙ ap (λ b. lesser (lesser None (lesser (behind front (both (Some []) (if b then Some (dword_bytes rel) else None))) short)) None) (lt-ltb rel (2 ^ 32) low) ∙ some.1)

has-jump : (rel : ℕ) → rel < 2 ^ 32 → Has (insn.Jump rel)
unfolding least by_rows general special byte_row full_row short_row assembled
has-jump rel low = has-long rel (0xE9 ∷ []) _ (insn.Jump rel) low refl

has-branch : (c : Cond) (rel : ℕ) → rel < 2 ^ 32 → Has (insn.Branch c rel)
unfolding least by_rows general special byte_row full_row short_row assembled
has-branch cond.O rel low = has-long rel (0x0F ∷ 0x80 ∷ []) _ (insn.Branch cond.O rel) low refl
has-branch cond.No rel low = has-long rel (0x0F ∷ 0x81 ∷ []) _ (insn.Branch cond.No rel) low refl
has-branch cond.B rel low = has-long rel (0x0F ∷ 0x82 ∷ []) _ (insn.Branch cond.B rel) low refl
has-branch cond.Ae rel low = has-long rel (0x0F ∷ 0x83 ∷ []) _ (insn.Branch cond.Ae rel) low refl
has-branch cond.E rel low = has-long rel (0x0F ∷ 0x84 ∷ []) _ (insn.Branch cond.E rel) low refl
has-branch cond.Ne rel low = has-long rel (0x0F ∷ 0x85 ∷ []) _ (insn.Branch cond.Ne rel) low refl
has-branch cond.Be rel low = has-long rel (0x0F ∷ 0x86 ∷ []) _ (insn.Branch cond.Be rel) low refl
has-branch cond.A rel low = has-long rel (0x0F ∷ 0x87 ∷ []) _ (insn.Branch cond.A rel) low refl
has-branch cond.S rel low = has-long rel (0x0F ∷ 0x88 ∷ []) _ (insn.Branch cond.S rel) low refl
has-branch cond.Ns rel low = has-long rel (0x0F ∷ 0x89 ∷ []) _ (insn.Branch cond.Ns rel) low refl
has-branch cond.P rel low = has-long rel (0x0F ∷ 0x8A ∷ []) _ (insn.Branch cond.P rel) low refl
has-branch cond.Np rel low = has-long rel (0x0F ∷ 0x8B ∷ []) _ (insn.Branch cond.Np rel) low refl
has-branch cond.L rel low = has-long rel (0x0F ∷ 0x8C ∷ []) _ (insn.Branch cond.L rel) low refl
has-branch cond.Ge rel low = has-long rel (0x0F ∷ 0x8D ∷ []) _ (insn.Branch cond.Ge rel) low refl
has-branch cond.Le rel low = has-long rel (0x0F ∷ 0x8E ∷ []) _ (insn.Branch cond.Le rel) low refl
has-branch cond.G rel low = has-long rel (0x0F ∷ 0x8F ∷ []) _ (insn.Branch cond.G rel) low refl

-- ---- loops

is-near : (rel : ℕ) → (nat_le 128 rel && nat_lt rel (2 ^ 32 - 128)) ≡ false → (rel < 128) ⊎ (2 ^ 32 - 128 ≤ rel)
is-near rel near = go (nat_le 128 rel) (nat_lt rel (2 ^ 32 - 128)) refl refl near where
  go : (a b : Bool) → nat_le 128 rel ≡ a → nat_lt rel (2 ^ 32 - 128) ≡ b → (a && b) ≡ false → (rel < 128) ⊎ (2 ^ 32 - 128 ≤ rel)
  go true true ea eb h = absurd (false≢true (sym h))
  go true false ea eb h = inr (grind (arith, nat_tests))
  go false b ea eb h = inl (grind (arith, nat_tests))

signed-again : (rel : ℕ) → rel < 2 ^ 32 → (rel < 128) ⊎ (2 ^ 32 - 128 ≤ rel) → signed_byte D (rel % 2 ^ 8) ≡ rel
signed-again rel low near = go (nat_lt (rel % 2 ^ 8) 0x80) refl where
  go : (b : Bool) → nat_lt (rel % 2 ^ 8) 0x80 ≡ b → (if b then rel % 2 ^ 8 else rel % 2 ^ 8 + (2 ^ 32 - 0x100)) ≡ rel
  go true e = let small : rel % 2 ^ 8 < 0x80 = grind (arith, nat_tests) in elim near [ inl l ↦ omega arith | inr l ↦ absurd (omega arith) ]
  go false e = let large : 0x80 ≤ rel % 2 ^ 8 = grind (arith, nat_tests) in elim near [ inl l ↦ absurd (omega arith) | inr l ↦ omega arith ]

has-loop : (k : LoopKind) (rel : ℕ) → signed_byte D (rel % 2 ^ 8) ≡ rel → (s : List ℕ) × (least (insn.Loop k rel) ≡ Some s) × (length s ≡ 2)
unfolding least by_rows general special byte_row full_row short_row assembled
has-loop loop.Ne rel near = (0xE0 ∷ rel % 2 ^ 8 ∷ [], ap (λ b. lesser (lesser None (lesser None (behind (0xE0 ∷ []) (both (Some []) (if b then Some (rel % 2 ^ 8 ∷ []) else None))))) None) (eq-eqb (signed_byte D (rel % 2 ^ 8)) rel near), refl)
has-loop loop.E rel near = (0xE1 ∷ rel % 2 ^ 8 ∷ [], ap (λ b. lesser (lesser None (lesser None (behind (0xE1 ∷ []) (both (Some []) (if b then Some (rel % 2 ^ 8 ∷ []) else None))))) None) (eq-eqb (signed_byte D (rel % 2 ^ 8)) rel near), refl)
has-loop loop.Plain rel near = (0xE2 ∷ rel % 2 ^ 8 ∷ [], ap (λ b. lesser (lesser None (lesser None (behind (0xE2 ∷ []) (both (Some []) (if b then Some (rel % 2 ^ 8 ∷ []) else None))))) None) (eq-eqb (signed_byte D (rel % 2 ^ 8)) rel near), refl)
has-loop loop.Ecxz rel near = (0xE3 ∷ rel % 2 ^ 8 ∷ [], ap (λ b. lesser (lesser None (lesser None (behind (0xE3 ∷ []) (both (Some []) (if b then Some (rel % 2 ^ 8 ∷ []) else None))))) None) (eq-eqb (signed_byte D (rel % 2 ^ 8)) rel near), refl)

-- ---- at any address

least-is : (i : Insn) (s : List ℕ) → least i ≡ Some s → IsLeast i s
least-is i s e = subst (IsLeastOf i) e (least_of i)

spelled-by : (i : Insn) (s : List ℕ) → least i ≡ Some s → HasSpelling i
spelled-by i s e = (s, (least-is i s e).spells)

distance-low : (from to : ℕ) → distance from to < 2 ^ 32
distance-low from to = omega arith

near-at : (k : LoopKind) (to next : ℕ) → is_long (insn.Loop k to) next ≡ false → signed_byte D (distance next to % 2 ^ 8) ≡ distance next to
near-at k to next near = signed-again (distance next to) (distance-low next to) (is-near (distance next to) near)

pub spelled-at : (i : Insn) (next : ℕ) → IsJudged i → is_long i next ≡ false → HasSpelling (relative next i)
spelled-at (insn.Jump to) next judged near = let h = has-jump (distance next to) (distance-low next to) in spelled-by (insn.Jump (distance next to)) h.0 h.1
spelled-at (insn.Branch c to) next judged near = let h = has-branch c (distance next to) (distance-low next to) in spelled-by (insn.Branch c (distance next to)) h.0 h.1
spelled-at (insn.Loop k to) next judged near = let h = has-loop k (distance next to) (near-at k to next near) in spelled-by (insn.Loop k (distance next to)) h.0 h.1
spelled-at (insn.Call to) next judged near = spelled-by (insn.Call (distance next to)) _ (least-call (distance next to) (distance-low next to))
spelled-at i next judged near = judged

from-least : (i : Insn) → HasSpelling i → IsLeast i (option_map_or (λ s. s) (least i) [])
from-least i h = go (least i) (least_of i) where
  go : (o : Option (List ℕ)) → IsLeastOf i o → IsLeast i (option_map_or (λ s. s) o [])
  go None none = absurd (none h.0 h.1)
  go (Some s) is = is

pub takes-written : (i : Insn) → HasSpelling i → Takes i (written i)
takes-written (insn.Jump rel) h = refl
takes-written (insn.Branch c rel) h = refl
takes-written i h = from-least i h

-- how many bytes there are
least-length : (i : Insn) (n : ℕ) → LeastOfLength i n → length (option_map_or (λ s. s) (least i) []) ≡ n
least-length i n l = ap length (one_least i _ l.0 (from-least i (l.0, l.1.spells)) l.1) ∙ l.2

length-some : (i : Insn) (s : List ℕ) (n : ℕ) → least i ≡ Some s → length s ≡ n → length (option_map_or (λ s. s) (least i) []) ≡ n
length-some i s n is long = ap (λ o. length (option_map_or (λ (s : List ℕ). s) o [])) is ∙ long

pub length-written : (i : Insn) (next n : ℕ) → IsJudged i → is_long i next ≡ false → HasLength i n → length (written (relative next i)) ≡ n
unfolding word
length-written (insn.Jump to) next n judged near is = sym is
length-written (insn.Branch c to) next n judged near is = sym is
length-written (insn.Loop k to) next n judged near is = let h = has-loop k (distance next to) (near-at k to next near) in length-some (insn.Loop k (distance next to)) h.0 n h.1 (h.2 ∙ sym is)
length-written (insn.Call to) next n judged near is = length-some (insn.Call (distance next to)) (0xE8 ∷ dword_bytes (distance next to)) n (least-call (distance next to) (distance-low next to)) (sym is)
length-written i next n judged near is = least-length i n is

-- no spelling is empty
some-spelling : (s : List ℕ) (i : Insn) → Spells s i → 0 < length s
some-spelling s i h = go (h.prefixes ++ lead_bytes h.row.lead) h.parts where
  go : (front : List ℕ) → s ≡ front ++ h.opcode ∷ h.operands → 0 < length s
  go front e = omega (arith, ap length e, length-append front (h.opcode ∷ h.operands))

least-some : (i : Insn) (n : ℕ) → LeastOfLength i n → 0 < n
least-some i n l = omega (arith, some-spelling l.0 i l.1.spells, l.2)

pub some-length : (i : Insn) (n : ℕ) → HasLength i n → 0 < n
some-length (insn.Jump to) n is = omega (arith, is)
some-length (insn.Branch c to) n is = omega (arith, is)
some-length (insn.Loop k to) n is = omega (arith, is)
some-length (insn.Call to) n is = omega (arith, is)
some-length i n is = least-some i n is

-- ---- texts

-- where it goes
goes : (next to : ℕ) → next < 2 ^ 32 → address_after next (distance next to) ≡ address_after 0 to
goes next to low = omega arith

pub shifted : (i : Insn) (next : ℕ) → next < 2 ^ 32 → text_of (relative next i) next ≡ text_of i 0
shifted (insn.Jump to) next low = ap (λ n. stem (insn.Jump to) ++ ending (insn.Jump to) ++ operands_text (Number n ∷ [])) (goes next to low)
shifted (insn.Branch c to) next low = ap (λ n. stem (insn.Branch c to) ++ ending (insn.Branch c to) ++ operands_text (Number n ∷ [])) (goes next to low)
shifted (insn.Loop k to) next low = ap (λ n. stem (insn.Loop k to) ++ ending (insn.Loop k to) ++ operands_text (Number n ∷ [])) (goes next to low)
shifted (insn.Call to) next low = ap (λ n. stem (insn.Call to) ++ ending (insn.Call to) ++ operands_text (Number n ∷ [])) (goes next to low)
shifted i next low = refl

-- ---- a transfer to a label

pub aimed-judged : (i : Insn) (to : ℕ) → to < 2 ^ 32 → IsTransfer i → IsJudged (with_target to i)
aimed-judged (insn.Jump rel) to low is = let h = has-jump to low in spelled-by (insn.Jump to) h.0 h.1
aimed-judged (insn.Branch c rel) to low is = let h = has-branch c to low in spelled-by (insn.Branch c to) h.0 h.1
aimed-judged (insn.Loop k rel) to low is = low
aimed-judged (insn.Call rel) to low is = spelled-by (insn.Call to) _ (least-call to low)
aimed-judged i to low is = absurd is

pub aimed-length : (i : Insn) (to n : ℕ) → IsTransfer i → HasLength i n → HasLength (with_target to i) n
aimed-length (insn.Jump rel) to n is h = h
aimed-length (insn.Branch c rel) to n is h = h
aimed-length (insn.Loop k rel) to n is h = h
aimed-length (insn.Call rel) to n is h = h
aimed-length i to n is h = absurd is

pub aimed-target : (i : Insn) (to next : ℕ) → next < 2 ^ 32 → to < 2 ^ 32 → IsTransfer i → target (relative next (with_target to i)) next ≡ Some to
aimed-target (insn.Jump rel) to next low small is = ap Some (omega arith)
aimed-target (insn.Branch c rel) to next low small is = ap Some (omega arith)
aimed-target (insn.Loop k rel) to next low small is = ap Some (omega arith)
aimed-target (insn.Call rel) to next low small is = ap Some (omega arith)
aimed-target i to next low small is = absurd is

pub aimed-word : (i : Insn) (to next : ℕ) → IsTransfer i → stem i ++ ending i ≡ stem (relative next (with_target to i)) ++ ending (relative next (with_target to i))
aimed-word (insn.Jump rel) to next is = refl
aimed-word (insn.Branch c rel) to next is = refl
aimed-word (insn.Loop k rel) to next is = refl
aimed-word (insn.Call rel) to next is = refl
aimed-word i to next is = absurd is
