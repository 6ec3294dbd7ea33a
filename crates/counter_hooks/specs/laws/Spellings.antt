-- What the bytes of a counter spell.
use Rattle.std.proofs.Common.{ℕ, ◌^◌, ◌<◌, false, [], ◌∷◌, Some, None, refl, arith}
use Rattle.mv_base.specs.Bytes.{word}
use Rattle.x86_insn.specs.declared.insn.Insn.TheVariants as insn
use Rattle.x86_insn.specs.declared.insn.LoopKind.TheVariants.{Ecxz}
use Rattle.x86_insn.specs.declared.insn.Mem.{Mem}
use Rattle.x86_insn.specs.declared.insn.Reg.TheVariants.{Ecx}
use Rattle.x86_insn.specs.declared.insn.Rm.TheVariants as rm
use Rattle.x86_insn.specs.declared.insn.Src.TheVariants as src
use Rattle.x86_insn.specs.declared.insn.Width.TheVariants.{D}
use Rattle.x86_insn.specs.Spelling.{spelled}
use Rattle.x86_insn.specs.Rows.{rows}
use Rattle.step_laws.specs.laws.Spelled.{Spelled, with_number}

-- the word at an address, and the number above ECX
abbrev pub at_address : ℕ → Mem
at_address n = record { base = None; index = None; disp = n; gs = false }

abbrev pub one_above : Mem
one_above = record { base = Some Ecx; index = None; disp = 1; gs = false }

pub keep : (n : ℕ) → n < 2 ^ 32 → Spelled (0x89 ∷ 0x0D ∷ word n) (insn.Mov D (rm.M (at_address n)) (src.R Ecx))
unfolding rows
keep n low = with_number (0x89 ∷ 0x0D ∷ []) (λ n. insn.Mov D (rm.M (at_address n)) (src.R Ecx)) (λ a b c d. refl) (omega arith) refl n low

pub take : (n : ℕ) → n < 2 ^ 32 → Spelled (0x8B ∷ 0x0D ∷ word n) (insn.Mov D (rm.R Ecx) (src.M (at_address n)))
unfolding rows
take n low = with_number (0x8B ∷ 0x0D ∷ []) (λ n. insn.Mov D (rm.R Ecx) (src.M (at_address n))) (λ a b c d. refl) (omega arith) refl n low

pub raise : Spelled (0x8D ∷ 0x49 ∷ 0x01 ∷ []) (insn.Lea D Ecx one_above)
unfolding spelled rows
raise = record { spells = refl }

pub to_high : Spelled (0xE3 ∷ 0x02 ∷ []) (insn.Loop Ecxz 2)
unfolding spelled rows
to_high = record { spells = refl }

pub over_high : Spelled (0xEB ∷ 0x0F ∷ []) (insn.Jump 15)
unfolding spelled rows
over_high = record { spells = refl }
