-- What the bytes of the stub spell.
use Rattle.std.proofs.Common.{ℕ, ◌^◌, ◌<◌, false, [], ◌∷◌, Some, None, refl, arith}
use Rattle.mv_base.specs.Bytes.{word}
use Rattle.x86_insn.specs.declared.insn.AluOp.TheVariants.{And, Sub, Cmp}
use Rattle.x86_insn.specs.declared.insn.Cond.TheVariants.{Ae, Ne}
use Rattle.x86_insn.specs.declared.insn.Count.TheVariants as count
use Rattle.x86_insn.specs.declared.insn.Insn.TheVariants as insn
use Rattle.x86_insn.specs.declared.insn.Mem.{Mem}
use Rattle.x86_insn.specs.declared.insn.Reg.TheVariants.{Eax, Ecx, Edx, Esp}
use Rattle.x86_insn.specs.declared.insn.Rm.TheVariants as rm
use Rattle.x86_insn.specs.declared.insn.ShiftOp.TheVariants.{Shr}
use Rattle.x86_insn.specs.declared.insn.Src.TheVariants as src
use Rattle.x86_insn.specs.declared.insn.Width.TheVariants.{D}
use Rattle.x86_insn.specs.Spelling.{spelled}
use Rattle.x86_insn.specs.Rows.{rows}
use Rattle.step_laws.specs.laws.Spelled.{Spelled, with_number}

-- the word at an address, and that number ECX of those from EDX on
abbrev pub at_address : ℕ → Mem
at_address n = record { base = None; index = None; disp = n; gs = false }

abbrev pub at_entry : Mem
at_entry = record { base = Some Edx; index = Some (Ecx, 4); disp = 0; gs = false }

-- ---- bytes that end with a number

pub keep_esp : (n : ℕ) → n < 2 ^ 32 → Spelled (0x89 ∷ 0x25 ∷ word n) (insn.Mov D (rm.M (at_address n)) (src.R Esp))
unfolding rows
keep_esp n low = with_number (0x89 ∷ 0x25 ∷ []) (λ n. insn.Mov D (rm.M (at_address n)) (src.R Esp)) (λ a b c d. refl) (omega arith) refl n low

pub own_stack : (n : ℕ) → n < 2 ^ 32 → Spelled (0xBC ∷ word n) (insn.Mov D (rm.R Esp) (src.Imm n))
unfolding rows
own_stack n low = with_number (0xBC ∷ []) (λ n. insn.Mov D (rm.R Esp) (src.Imm n)) (λ a b c d. refl) (omega arith) refl n low

pub load_target : (n : ℕ) → n < 2 ^ 32 → Spelled (0xA1 ∷ word n) (insn.Mov D (rm.R Eax) (src.M (at_address n)))
unfolding rows
load_target n low = with_number (0xA1 ∷ []) (λ n. insn.Mov D (rm.R Eax) (src.M (at_address n))) (λ a b c d. refl) (omega arith) refl n low

pub subtract_lo : (n : ℕ) → n < 2 ^ 32 → Spelled (0x81 ∷ 0xE9 ∷ word n) (insn.Alu Sub D false (rm.R Ecx) (src.Imm n))
unfolding rows
subtract_lo n low = with_number (0x81 ∷ 0xE9 ∷ []) (λ n. insn.Alu Sub D false (rm.R Ecx) (src.Imm n)) (λ a b c d. refl) (omega arith) refl n low

pub compare_len : (n : ℕ) → n < 2 ^ 32 → Spelled (0x81 ∷ 0xF9 ∷ word n) (insn.Alu Cmp D false (rm.R Ecx) (src.Imm n))
unfolding rows
compare_len n low = with_number (0x81 ∷ 0xF9 ∷ []) (λ n. insn.Alu Cmp D false (rm.R Ecx) (src.Imm n)) (λ a b c d. refl) (omega arith) refl n low

pub load_dir : (n : ℕ) → n < 2 ^ 32 → Spelled (0xBA ∷ word n) (insn.Mov D (rm.R Edx) (src.Imm n))
unfolding rows
load_dir n low = with_number (0xBA ∷ []) (λ n. insn.Mov D (rm.R Edx) (src.Imm n)) (λ a b c d. refl) (omega arith) refl n low

pub keep_target : (n : ℕ) → n < 2 ^ 32 → Spelled (0xA3 ∷ word n) (insn.Mov D (rm.M (at_address n)) (src.R Eax))
unfolding rows
keep_target n low = with_number (0xA3 ∷ []) (λ n. insn.Mov D (rm.M (at_address n)) (src.R Eax)) (λ a b c d. refl) (omega arith) refl n low

pub load_esp : (n : ℕ) → n < 2 ^ 32 → Spelled (0x8B ∷ 0x25 ∷ word n) (insn.Mov D (rm.R Esp) (src.M (at_address n)))
unfolding rows
load_esp n low = with_number (0x8B ∷ 0x25 ∷ []) (λ n. insn.Mov D (rm.R Esp) (src.M (at_address n))) (λ a b c d. refl) (omega arith) refl n low

pub jump_target : (n : ℕ) → n < 2 ^ 32 → Spelled (0xFF ∷ 0x25 ∷ word n) (insn.JumpVia (rm.M (at_address n)))
unfolding rows
jump_target n low = with_number (0xFF ∷ 0x25 ∷ []) (λ n. insn.JumpVia (rm.M (at_address n))) (λ a b c d. refl) (omega arith) refl n low

-- ---- closed bytes

pub push_flags : Spelled (0x9C ∷ []) (insn.Pushfd)
unfolding spelled rows
push_flags = record { spells = refl }

pub push_eax : Spelled (0x50 ∷ []) (insn.Push (src.R Eax))
unfolding spelled rows
push_eax = record { spells = refl }

pub push_ecx : Spelled (0x51 ∷ []) (insn.Push (src.R Ecx))
unfolding spelled rows
push_ecx = record { spells = refl }

pub push_edx : Spelled (0x52 ∷ []) (insn.Push (src.R Edx))
unfolding spelled rows
push_edx = record { spells = refl }

pub copy_target : Spelled (0x89 ∷ 0xC1 ∷ []) (insn.Mov D (rm.R Ecx) (src.R Eax))
unfolding spelled rows
copy_target = record { spells = refl }

pub next_run : Spelled (0x73 ∷ 0x0A ∷ []) (insn.Branch Ae 10)
unfolding spelled rows
next_run = record { spells = refl }

pub over_flat : Spelled (0xEB ∷ 0x08 ∷ []) (insn.Jump 8)
unfolding spelled rows
over_flat = record { spells = refl }

pub over_paged : Spelled (0xEB ∷ 0x16 ∷ []) (insn.Jump 22)
unfolding spelled rows
over_paged = record { spells = refl }

pub load_entry : Spelled (0x8B ∷ 0x0C ∷ 0x8A ∷ []) (insn.Mov D (rm.R Ecx) (src.M at_entry))
unfolding spelled rows
load_entry = record { spells = refl }

pub test_entry : Spelled (0x85 ∷ 0xC9 ∷ []) (insn.Test D (rm.R Ecx) (src.R Ecx))
unfolding spelled rows
test_entry = record { spells = refl }

pub choose_entry : Spelled (0x0F ∷ 0x45 ∷ 0xC1 ∷ []) (insn.Cmov Ne D Eax (rm.R Ecx))
unfolding spelled rows
choose_entry = record { spells = refl }

pub shift_offset : Spelled (0xC1 ∷ 0xE9 ∷ 0x0A ∷ []) (insn.Shift Shr D (rm.R Ecx) (count.Imm 10))
unfolding spelled rows
shift_offset = record { spells = refl }

pub load_page : Spelled (0x8B ∷ 0x14 ∷ 0x8A ∷ []) (insn.Mov D (rm.R Edx) (src.M at_entry))
unfolding spelled rows
load_page = record { spells = refl }

pub mask_offset : Spelled (0x81 ∷ 0xE1 ∷ 0xFF ∷ 0x03 ∷ 0 ∷ 0 ∷ []) (insn.Alu And D false (rm.R Ecx) (src.Imm 0x3FF))
unfolding spelled rows
mask_offset = record { spells = refl }

pub pop_edx : Spelled (0x5A ∷ []) (insn.Pop (rm.R Edx))
unfolding spelled rows
pop_edx = record { spells = refl }

pub pop_ecx : Spelled (0x59 ∷ []) (insn.Pop (rm.R Ecx))
unfolding spelled rows
pop_ecx = record { spells = refl }

pub pop_eax : Spelled (0x58 ∷ []) (insn.Pop (rm.R Eax))
unfolding spelled rows
pop_eax = record { spells = refl }

pub pop_flags : Spelled (0x9D ∷ []) (insn.Popfd)
unfolding spelled rows
pop_flags = record { spells = refl }
