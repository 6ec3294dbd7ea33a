-- That a symbolic step is one line: the code `pop dword [p+4]`, and then a near jump, takes a word from the stack to the
-- second private word and goes where it says, in two steps.
use Rattle.std.proofs.Common.{◌≡◌, ℕ, ◌+◌, ◌^◌, ◌<◌, [], ◌∷◌, None, true, false, ◌&&◌, refl, sym, ap, ◌∙◌, arith}
use Rattle.mv_base.specs.Bytes.{word}
use Rattle.mv_base.specs.Memory.{address_after}
use Rattle.x86_insn.specs.declared.insn.Insn.TheVariants.{Pop}
use Rattle.x86_insn.specs.declared.insn.Reg.TheVariants.{Esp}
use Rattle.x86_insn.specs.declared.insn.Rm.TheVariants as rm
use Rattle.x86_insn.specs.declared.registers.Core.{Core}
use Rattle.x86_insn.specs.Moves.{risen}
use Rattle.x86_insn.specs.Operands.{reg}
use Rattle.x86_insn.specs.Rows.{rows}
use Rattle.step_laws.specs.Jumps.{jump_bytes}
use Rattle.step_laws.specs.laws.Logs.{may_all}
use Rattle.step_laws.specs.laws.Spelled.{Spelled, with_number}
use Rattle.step_laws.specs.laws.NearJump.{reach, jump_spelled, jump_goes}
use Rattle.step_laws.specs.laws.Symbolic.{Setting, Code, Comes, Word, on, absolute, code_low, pop_to, jump, done}

pop_spelled : (n : ℕ) → n < 2 ^ 32 → Spelled (0x8F ∷ 0x05 ∷ word n) (Pop (rm.M (record { base = None; index = None; disp = n; gs = false })))
unfolding rows
pop_spelled n low = with_number (0x8F ∷ 0x05 ∷ []) (λ k. Pop (rm.M (record { base = None; index = None; disp = k; gs = false }))) (λ a b c d. refl) (omega arith) refl n low

-- the setting's places are words from p on
pub return_comes : (g : Setting) (c : Core) (p e to v : ℕ) → g.at 1 ≡ p + 4 → g.may 1 ≡ true → p + 4 < 2 ^ 32 → to < 2 ^ 32 → Word g [] (reg c Esp) v
    → Code g e ((0x8F ∷ 0x05 ∷ word (p + 4)) ∷ jump_bytes (e + 6) to ∷ []) → Comes g 2 c e [] (on g (risen 4 c) to ((1, v) ∷ []))
unfolding word
return_comes g c p e to v place free low inside w code =
    pop_to g 1 v (pop_spelled (p + 4) low) (absolute (p + 4) low ∙ sym place) w free refl code (λ code.
    jump g to (jump_spelled (e + 6) to) (jump_goes_on code) (may_one g free) code (done g))
  where
    jump_goes_on : Code g (e + 6) (jump_bytes (e + 6) to ∷ []) → address_after (e + 6 + 5) (reach (e + 6) to) ≡ to
    jump_goes_on code = ap (λ a. address_after a (reach (e + 6) to)) (sym (code_low g code)) ∙ jump_goes (e + 6) to inside

    may_one : (g : Setting) → g.may 1 ≡ true → may_all g.may ((1, v) ∷ []) ≡ true
    may_one g h = ap (λ t. t && true) h
