-- The text of an instruction is read as that instruction.
use Rattle.std.specs.Prelude.{◌==◌, if◌then◌else◌}
use Rattle.std.proofs.Common.{◌≡◌, ℕ, ◌^◌, ◌<◌, Bool, true, false, List, [], ◌∷◌, ◌++◌, Some, None, option_map, option_and_then, refl, sym, ap, ◌∙◌, append-nil, arith, cond, lit<}
use Rattle.std.proofs.lemmas.Bool.{lt-ltb, eqb-true}
use Rattle.std.proofs.lemmas.Option.{none-some}
use Rattle.mv_base.specs.Memory.{address_after, distance}
use Rattle.mv_base.specs.Reading.{behind}
use Rattle.x86_insn.specs.declared.insn.Count.{Count}
use Rattle.x86_insn.specs.declared.insn.Count.TheVariants as count
use Rattle.x86_insn.specs.declared.insn.Rm.{Rm}
use Rattle.x86_insn.specs.declared.insn.Rm.TheVariants as rm
use Rattle.x86_insn.specs.declared.insn.Src.{Src}
use Rattle.x86_insn.specs.declared.insn.Src.TheVariants as src
use Rattle.x86_insn.specs.declared.insn.Width.{Width}
use Rattle.x86_insn.specs.declared.insn.Width.TheVariants as width
use Rattle.x86_insn.specs.declared.insn.Rep.{Rep}
use Rattle.x86_insn.specs.declared.insn.Rep.TheVariants as rep
use Rattle.x86_insn.specs.declared.insn.Insn.{Insn}
use Rattle.x86_insn.specs.declared.insn.Insn.TheVariants as insn
use Rattle.insn_text.specs.declared.operand.Operand.{Operand}
use Rattle.insn_text.specs.declared.operand.Operand.TheVariants.{Number}
use Rattle.insn_text.specs.Names.{stem, ending}
use Rattle.insn_text.specs.Operands.{operands, place, source, counted, selector, dropped}
use Rattle.insn_text.specs.Text.{operand_text, operands_text, rest_text, text_of}
use Rattle.mini_asm.specs.declared.mnemonic.Mnemonic.{Mnemonic}
use Rattle.mini_asm.specs.declared.mnemonic.Mnemonic.TheVariants as mnemonic
use Rattle.mini_asm.specs.Words.{word_at}
use Rattle.mini_asm.specs.Mnemonics.{mnemonic_named}
use Rattle.mini_asm.specs.Operands.{operand_at, operands_in, plain_at, address_operand, register_operand, number_operand, gs_operand, bracket_at, register_at, low_register_at, high_register_at}
use Rattle.mini_asm.specs.Words.{number_at}
use Rattle.mini_asm.specs.Building.{absolute, relative, built, candidate, with_operands, shown_in, on_sized, on_number, on_register, on_memory, into_register, from_register, from_source, from_two, moved, into_two, with_register, shifted_by, loaded_address, with_two, multiplied, doubled}
use Rattle.mini_asm.proofs.Addresses.{OperandKept, one-again, two-again, three-again}
use Rattle.mini_asm.proofs.Kept.{Kept, RmKept, SrcKept, CountKept, Selected}
use Rattle.mini_asm.proofs.Named.{Reads, operation, locks, repeats, reads, front-again}

-- ---- the operands

-- operands that are read again from their text
abbrev pub Shown : List Operand → Type 0
Shown [] = Unit {0}
Shown (a ∷ []) = OperandKept a
Shown (a ∷ b ∷ []) = OperandKept a × OperandKept b
Shown (a ∷ b ∷ c ∷ []) = OperandKept a × OperandKept b × OperandKept c
Shown (a ∷ b ∷ c ∷ d ∷ os) = ⊥

-- no text spells no operands
nothing-shown : operands_in [] ≡ None
unfolding operands_in operand_at plain_at address_operand register_operand number_operand gs_operand bracket_at register_at low_register_at high_register_at number_at behind
nothing-shown = refl

shown-some : (t : List ℕ) (os : List Operand) → operands_in t ≡ Some os → shown_in t ≡ Some os
unfolding shown_in
shown-some [] os is = absurd (none-some os (sym nothing-shown ∙ is))
shown-some (c ∷ t) os is = is

shown-again : (a : Operand) (os : List Operand) → Shown (a ∷ os) → operands_in (operand_text a ++ rest_text os) ≡ Some (a ∷ os)
shown-again a [] kept = one-again a kept
shown-again a (b ∷ []) kept = two-again a b kept.0 kept.1
shown-again a (b ∷ c ∷ []) kept = three-again a b c kept.0 kept.1 kept.2
shown-again a (b ∷ c ∷ d ∷ os) kept = absurd kept

built-of : (lock : Bool) (rep : Rep) (t w rest : List ℕ) (m : Mnemonic) (os : List Operand) → word_at t ≡ (w, rest) → mnemonic_named w ≡ Some m → shown_in rest ≡ Some os
    → built lock rep t ≡ with_operands m lock rep os
unfolding built
built-of lock rep t w rest m os is named shown =
    ap (λ (p : List ℕ × List ℕ). option_and_then (λ m. option_and_then (λ os. with_operands m lock rep os) (shown_in p.1)) (mnemonic_named p.0)) is
    ∙ ap (option_and_then (λ m. option_and_then (λ os. with_operands m lock rep os) (shown_in rest))) named
    ∙ ap (option_and_then (λ os. with_operands m lock rep os)) shown

built-again : (lock : Bool) (rep : Rep) (w : List ℕ) (m : Mnemonic) (os : List Operand) → Reads w m → Shown os
    → built lock rep (w ++ operands_text os) ≡ with_operands m lock rep os
unfolding shown_in
built-again lock rep w m [] reads shown = ap (built lock rep) (append-nil w) ∙ built-of lock rep w w [] m [] reads.alone reads.named refl
built-again lock rep w m (a ∷ os) reads shown =
    built-of lock rep (w ++ operands_text (a ∷ os)) w (operand_text a ++ rest_text os) m (a ∷ os) (reads.spaced (operand_text a ++ rest_text os)) reads.named
    (shown-some (operand_text a ++ rest_text os) (a ∷ os) (shown-again a os shown))

place-kept : (w : Width) (x : Rm) → RmKept x → OperandKept (place w x)
place-kept w (rm.R r) kept = tt
place-kept w (rm.M m) kept = kept

source-kept : (w : Width) (s : Src) → SrcKept s → OperandKept (source w s)
source-kept w (src.R r) kept = tt
source-kept w (src.M m) kept = kept
source-kept w (src.Imm n) kept = kept

counted-kept : (n : Count) → CountKept n → OperandKept (counted n)
counted-kept (count.Imm n) kept = omega arith
counted-kept count.Cl kept = tt

selector-kept : (w : Width) (x : Rm) → Selected w x → OperandKept (selector w x)
selector-kept w (rm.R r) kept = tt
selector-kept width.W (rm.M m) kept = kept
selector-kept width.B (rm.M m) kept = absurd kept
selector-kept width.D (rm.M m) kept = absurd kept

word-selector : (x : Rm) → RmKept x → OperandKept (selector width.W x)
word-selector (rm.R r) kept = tt
word-selector (rm.M m) kept = kept

low : (next rel : ℕ) → address_after next rel < 2 ^ 32
low next rel = omega arith

dropped-kept : (n : ℕ) → n < 2 ^ 16 → Shown (dropped n)
dropped-kept n small = go (n == 0) where
  go : (b : Bool) → Shown (if b then [] else Number n ∷ [])
  go true = tt
  go false = omega arith

shown : (i : Insn) (next : ℕ) → Kept i → Shown (operands i next)
shown (insn.Alu op w lock dst s) next kept = (place-kept w dst kept.0, source-kept w s kept.1)
shown (insn.Test w dst s) next kept = (place-kept w dst kept.0, source-kept w s kept.1)
shown (insn.Mov w dst s) next kept = (place-kept w dst kept.0, source-kept w s kept.1)
shown (insn.Xchg w lock dst r) next kept = (place-kept w dst kept, tt)
shown (insn.Lea w dst m) next kept = (tt, kept)
shown (insn.Movx signed from to dst s) next kept = (tt, place-kept from s kept)
shown (insn.Bswap r) next kept = tt
shown (insn.Push s) next kept = source-kept width.D s kept
shown (insn.Pop dst) next kept = place-kept width.D dst kept
shown insn.Pushad next kept = tt
shown insn.Popad next kept = tt
shown insn.Pushfd next kept = tt
shown insn.Popfd next kept = tt
shown insn.Leave next kept = tt
shown (insn.Bump up w lock dst) next kept = place-kept w dst kept
shown (insn.Unary op w lock dst) next kept = place-kept w dst kept
shown (insn.Mul signed w s) next kept = place-kept w s kept
shown (insn.Div signed w s) next kept = place-kept w s kept
shown (insn.Imul w dst s None) next kept = (tt, place-kept w s kept.0)
shown (insn.Imul w dst s (Some n)) next kept = (tt, place-kept w s kept.0, kept.1)
shown (insn.Shift op w dst n) next kept = (place-kept w dst kept.0, counted-kept n kept.1)
shown (insn.Double left dst s n) next kept = (place-kept width.D dst kept.0, tt, counted-kept n kept.1)
shown (insn.Bit op w lock dst n) next kept = (place-kept w dst kept.0, source-kept w n kept.1)
shown (insn.Scan up w dst s) next kept = (tt, place-kept w s kept)
shown (insn.Cmpxchg w lock dst s) next kept = (place-kept w dst kept, tt)
shown (insn.Xadd w lock dst s) next kept = (place-kept w dst kept, tt)
shown (insn.Set c dst) next kept = place-kept width.B dst kept
shown (insn.Cmov c w dst s) next kept = (tt, place-kept w s kept)
shown (insn.Cbw w) next kept = tt
shown (insn.Cwd w) next kept = tt
shown (insn.Str op w r) next kept = tt
shown insn.Xlat next kept = tt
shown insn.Lahf next kept = tt
shown insn.Sahf next kept = tt
shown (insn.Flag op) next kept = tt
shown insn.Nop next kept = tt
shown insn.Pause next kept = tt
shown insn.Endbr next kept = tt
shown (insn.ToGs s) next kept = (tt, word-selector s kept)
shown (insn.FromGs w dst) next kept = (selector-kept w dst kept, tt)
shown insn.Cpuid next kept = tt
shown (insn.Jump rel) next kept = low next rel
shown (insn.Branch c rel) next kept = low next rel
shown (insn.Loop kind rel) next kept = low next rel
shown (insn.Call rel) next kept = low next rel
shown (insn.JumpVia s) next kept = place-kept width.D s kept
shown (insn.CallVia s) next kept = place-kept width.D s kept
shown (insn.Ret n) next kept = dropped-kept n kept
shown insn.Int80 next kept = lit< tt
shown insn.Int3 next kept = tt
shown insn.Hlt next kept = tt
shown insn.Ud2 next kept = tt

-- ---- the instruction

ret-made : (n : ℕ) → n < 2 ^ 16 → with_operands mnemonic.Ret false rep.Once (dropped n) ≡ Some (insn.Ret n)
unfolding with_operands on_number
ret-made n small = go (n == 0) refl where
  go : (b : Bool) → (n == 0) ≡ b → with_operands mnemonic.Ret false rep.Once (if b then [] else Number n ∷ []) ≡ Some (insn.Ret n)
  go true none = ap (λ k. Some (insn.Ret k)) (sym (eqb-true n 0 none))
  go false some = ap (λ b. cond b (Some (insn.Ret n)) None) (lt-ltb n (2 ^ 16) small)

made : (i : Insn) (next : ℕ) → Kept i → with_operands (operation i) (locks i) (repeats i) (operands i next) ≡ Some (absolute next i)
unfolding with_operands on_sized on_number on_register on_memory into_register from_register from_source from_two moved into_two with_register shifted_by loaded_address with_two multiplied doubled
made (insn.Alu op w lock (rm.R x) (src.R y)) next kept = refl
made (insn.Alu op w lock (rm.R x) (src.M y)) next kept = refl
made (insn.Alu op w lock (rm.R x) (src.Imm y)) next kept = refl
made (insn.Alu op w lock (rm.M x) (src.R y)) next kept = refl
made (insn.Alu op w lock (rm.M x) (src.M y)) next kept = refl
made (insn.Alu op w lock (rm.M x) (src.Imm y)) next kept = refl
made (insn.Test w (rm.R x) (src.R y)) next kept = refl
made (insn.Test w (rm.R x) (src.M y)) next kept = refl
made (insn.Test w (rm.R x) (src.Imm y)) next kept = refl
made (insn.Test w (rm.M x) (src.R y)) next kept = refl
made (insn.Test w (rm.M x) (src.M y)) next kept = refl
made (insn.Test w (rm.M x) (src.Imm y)) next kept = refl
made (insn.Mov w (rm.R x) (src.R y)) next kept = refl
made (insn.Mov w (rm.R x) (src.M y)) next kept = refl
made (insn.Mov w (rm.R x) (src.Imm y)) next kept = refl
made (insn.Mov w (rm.M x) (src.R y)) next kept = refl
made (insn.Mov w (rm.M x) (src.M y)) next kept = refl
made (insn.Mov w (rm.M x) (src.Imm y)) next kept = refl
made (insn.Xchg w lock (rm.R x) r) next kept = refl
made (insn.Xchg w lock (rm.M x) r) next kept = refl
made (insn.Lea w dst m) next kept = refl
made (insn.Movx signed from to dst (rm.R x)) next kept = refl
made (insn.Movx signed from to dst (rm.M x)) next kept = refl
made (insn.Bswap r) next kept = refl
made (insn.Push (src.R y)) next kept = refl
made (insn.Push (src.M y)) next kept = refl
made (insn.Push (src.Imm y)) next kept = refl
made (insn.Pop (rm.R x)) next kept = refl
made (insn.Pop (rm.M x)) next kept = refl
made insn.Pushad next kept = refl
made insn.Popad next kept = refl
made insn.Pushfd next kept = refl
made insn.Popfd next kept = refl
made insn.Leave next kept = refl
made (insn.Bump up w lock (rm.R x)) next kept = refl
made (insn.Bump up w lock (rm.M x)) next kept = refl
made (insn.Unary op w lock (rm.R x)) next kept = refl
made (insn.Unary op w lock (rm.M x)) next kept = refl
made (insn.Mul signed w (rm.R x)) next kept = refl
made (insn.Mul signed w (rm.M x)) next kept = refl
made (insn.Div signed w (rm.R x)) next kept = refl
made (insn.Div signed w (rm.M x)) next kept = refl
made (insn.Imul w dst (rm.R x) None) next kept = refl
made (insn.Imul w dst (rm.R x) (Some n)) next kept = refl
made (insn.Imul w dst (rm.M x) None) next kept = refl
made (insn.Imul w dst (rm.M x) (Some n)) next kept = refl
made (insn.Shift op w (rm.R x) (count.Imm n)) next kept = ap (λ b. option_map (λ k. insn.Shift op w (rm.R x) k) (cond b (Some (count.Imm n)) None)) (lt-ltb n (2 ^ 8) kept.1)
made (insn.Shift op w (rm.R x) count.Cl) next kept = refl
made (insn.Shift op w (rm.M x) (count.Imm n)) next kept = ap (λ b. option_map (λ k. insn.Shift op w (rm.M x) k) (cond b (Some (count.Imm n)) None)) (lt-ltb n (2 ^ 8) kept.1)
made (insn.Shift op w (rm.M x) count.Cl) next kept = refl
made (insn.Double left (rm.R x) s (count.Imm n)) next kept = ap (λ b. option_map (λ k. insn.Double left (rm.R x) s k) (cond b (Some (count.Imm n)) None)) (lt-ltb n (2 ^ 8) kept.1)
made (insn.Double left (rm.R x) s count.Cl) next kept = refl
made (insn.Double left (rm.M x) s (count.Imm n)) next kept = ap (λ b. option_map (λ k. insn.Double left (rm.M x) s k) (cond b (Some (count.Imm n)) None)) (lt-ltb n (2 ^ 8) kept.1)
made (insn.Double left (rm.M x) s count.Cl) next kept = refl
made (insn.Bit op w lock (rm.R x) (src.R y)) next kept = refl
made (insn.Bit op w lock (rm.R x) (src.M y)) next kept = refl
made (insn.Bit op w lock (rm.R x) (src.Imm y)) next kept = refl
made (insn.Bit op w lock (rm.M x) (src.R y)) next kept = refl
made (insn.Bit op w lock (rm.M x) (src.M y)) next kept = refl
made (insn.Bit op w lock (rm.M x) (src.Imm y)) next kept = refl
made (insn.Scan up w dst (rm.R x)) next kept = refl
made (insn.Scan up w dst (rm.M x)) next kept = refl
made (insn.Cmpxchg w lock (rm.R x) s) next kept = refl
made (insn.Cmpxchg w lock (rm.M x) s) next kept = refl
made (insn.Xadd w lock (rm.R x) s) next kept = refl
made (insn.Xadd w lock (rm.M x) s) next kept = refl
made (insn.Set c (rm.R x)) next kept = refl
made (insn.Set c (rm.M x)) next kept = refl
made (insn.Cmov c w dst (rm.R x)) next kept = refl
made (insn.Cmov c w dst (rm.M x)) next kept = refl
made (insn.Cbw width.B) next kept = absurd kept
made (insn.Cbw width.W) next kept = refl
made (insn.Cbw width.D) next kept = refl
made (insn.Cwd width.B) next kept = absurd kept
made (insn.Cwd width.W) next kept = refl
made (insn.Cwd width.D) next kept = refl
made (insn.Str op w r) next kept = refl
made insn.Xlat next kept = refl
made insn.Lahf next kept = refl
made insn.Sahf next kept = refl
made (insn.Flag op) next kept = refl
made insn.Nop next kept = refl
made insn.Pause next kept = refl
made insn.Endbr next kept = refl
made (insn.ToGs (rm.R x)) next kept = refl
made (insn.ToGs (rm.M x)) next kept = refl
made (insn.FromGs w (rm.R x)) next kept = refl
made (insn.FromGs width.B (rm.M x)) next kept = absurd kept
made (insn.FromGs width.W (rm.M x)) next kept = refl
made (insn.FromGs width.D (rm.M x)) next kept = absurd kept
made insn.Cpuid next kept = refl
made (insn.Jump rel) next kept = refl
made (insn.Branch c rel) next kept = refl
made (insn.Loop kind rel) next kept = refl
made (insn.Call rel) next kept = refl
made (insn.JumpVia (rm.R x)) next kept = refl
made (insn.JumpVia (rm.M x)) next kept = refl
made (insn.CallVia (rm.R x)) next kept = refl
made (insn.CallVia (rm.M x)) next kept = refl
made (insn.Ret n) next kept = ret-made n kept
made insn.Int80 next kept = refl
made insn.Int3 next kept = refl
made insn.Hlt next kept = refl
made insn.Ud2 next kept = refl

-- the one instruction that an instruction's text may be that of is the instruction
pub candidate-again : (i : Insn) (next : ℕ) → Kept i → candidate (text_of i next) ≡ Some (absolute next i)
candidate-again i next kept =
    front-again i (operands_text (operands i next))
    ∙ built-again (locks i) (repeats i) (stem i ++ ending i) (operation i) (operands i next) (reads i) (shown i next kept)
    ∙ made i next kept

there-and-back : (next rel : ℕ) → next < 2 ^ 32 → rel < 2 ^ 32 → distance next (address_after next rel) ≡ rel
there-and-back next rel low small = omega arith

pub relative-again : (i : Insn) (next : ℕ) → next < 2 ^ 32 → Kept i → relative next (absolute next i) ≡ i
relative-again (insn.Jump rel) next low kept = ap insn.Jump (there-and-back next rel low kept)
relative-again (insn.Branch c rel) next low kept = ap (insn.Branch c) (there-and-back next rel low kept)
relative-again (insn.Loop kind rel) next low kept = ap (insn.Loop kind) (there-and-back next rel low kept)
relative-again (insn.Call rel) next low kept = ap insn.Call (there-and-back next rel low kept)
relative-again (insn.Alu op w lock dst s) next low kept = refl
relative-again (insn.Test w dst s) next low kept = refl
relative-again (insn.Mov w dst s) next low kept = refl
relative-again (insn.Xchg w lock dst r) next low kept = refl
relative-again (insn.Lea w dst m) next low kept = refl
relative-again (insn.Movx signed from to dst s) next low kept = refl
relative-again (insn.Bswap r) next low kept = refl
relative-again (insn.Push s) next low kept = refl
relative-again (insn.Pop dst) next low kept = refl
relative-again insn.Pushad next low kept = refl
relative-again insn.Popad next low kept = refl
relative-again insn.Pushfd next low kept = refl
relative-again insn.Popfd next low kept = refl
relative-again insn.Leave next low kept = refl
relative-again (insn.Bump up w lock dst) next low kept = refl
relative-again (insn.Unary op w lock dst) next low kept = refl
relative-again (insn.Mul signed w s) next low kept = refl
relative-again (insn.Div signed w s) next low kept = refl
relative-again (insn.Imul w dst s imm) next low kept = refl
relative-again (insn.Shift op w dst n) next low kept = refl
relative-again (insn.Double left dst s n) next low kept = refl
relative-again (insn.Bit op w lock dst n) next low kept = refl
relative-again (insn.Scan up w dst s) next low kept = refl
relative-again (insn.Cmpxchg w lock dst s) next low kept = refl
relative-again (insn.Xadd w lock dst s) next low kept = refl
relative-again (insn.Set c dst) next low kept = refl
relative-again (insn.Cmov c w dst s) next low kept = refl
relative-again (insn.Cbw w) next low kept = refl
relative-again (insn.Cwd w) next low kept = refl
relative-again (insn.Str op w r) next low kept = refl
relative-again insn.Xlat next low kept = refl
relative-again insn.Lahf next low kept = refl
relative-again insn.Sahf next low kept = refl
relative-again (insn.Flag op) next low kept = refl
relative-again insn.Nop next low kept = refl
relative-again insn.Pause next low kept = refl
relative-again insn.Endbr next low kept = refl
relative-again (insn.ToGs s) next low kept = refl
relative-again (insn.FromGs w dst) next low kept = refl
relative-again insn.Cpuid next low kept = refl
relative-again (insn.JumpVia s) next low kept = refl
relative-again (insn.CallVia s) next low kept = refl
relative-again (insn.Ret n) next low kept = refl
relative-again insn.Int80 next low kept = refl
relative-again insn.Int3 next low kept = refl
relative-again insn.Hlt next low kept = refl
relative-again insn.Ud2 next low kept = refl
