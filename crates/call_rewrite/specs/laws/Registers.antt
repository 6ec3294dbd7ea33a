-- Registers that are set twice.
use Rattle.std.specs.Prelude.{◌≡◌, ℕ, zero, suc, ◌+◌, ◌%◌, ◌^◌, false, List, [], ◌∷◌, length, Some, None, slice_index, slice_set}
use Rattle.std.proofs.Common.{refl, ap, ◌∙◌, arith}
use Rattle.std.proofs.lemmas.List.{get_or-set_same, set-get_or}
use Rattle.mv_base.specs.Memory.{address_after}
use Rattle.x86_insn.specs.declared.insn.Reg.TheVariants.{Eax, Esp}
use Rattle.x86_insn.specs.declared.insn.Width.TheVariants.{D}
use Rattle.x86_insn.specs.declared.registers.Core.{Core}
use Rattle.x86_insn.specs.Moves.{risen}
use Rattle.x86_insn.specs.Operands.{reg, set_reg, effective_address}

set_twice : (regs : List ℕ) (k v n : ℕ) → slice_set (slice_set regs k v) k n ≡ slice_set regs k n
set_twice [] k v n = refl
set_twice (r ∷ regs) zero v n = refl
set_twice (r ∷ regs) (suc k) v n = ap (λ (l : List ℕ). r ∷ l) (set_twice regs k v n)

-- EAX has what it was set to, and is as it was where that is set again
pub eax_set : (c : Core) (v : ℕ) → length c.regs ≡ 8 → reg (set_reg D Eax v c) Eax ≡ v
eax_set c v eight = get_or-set_same c.regs 0 v 0 (omega (arith, eight))

pub eax_again : (c : Core) (v : ℕ) → set_reg D Eax (reg c Eax) (set_reg D Eax v c) ≡ c
eax_again c v = ap (λ (l : List ℕ). record c { regs = l }) (set_twice c.regs 0 v (slice_index c.regs 0) ∙ set-get_or c.regs 0 0)

-- LEA ESP,[ESP+n] behind a pop
pub drops : (c : Core) (n : ℕ) → length c.regs ≡ 8 → set_reg D Esp (effective_address (risen 4 c) (record { base = Some Esp; index = None; disp = n % 2 ^ 32; gs = false }) % 2 ^ 32) (risen 4 c) ≡ risen (4 + n) c
drops c n eight =
    let esp : slice_index (slice_set c.regs 4 (address_after (reg c Esp) 4)) 4 ≡ address_after (reg c Esp) 4 = get_or-set_same c.regs 4 (address_after (reg c Esp) 4) 0 (omega (arith, eight)) in
    let sum : (0 + address_after (reg c Esp) 4 + 0 + n % 2 ^ 32) % 2 ^ 32 % 2 ^ 32 ≡ address_after (reg c Esp) (4 + n) = omega arith in
    ap (λ (a : ℕ). record c { regs = slice_set (slice_set c.regs 4 (address_after (reg c Esp) 4)) 4 ((0 + a + 0 + n % 2 ^ 32) % 2 ^ 32 % 2 ^ 32) }) esp
    ∙ ap (λ (a : ℕ). record c { regs = slice_set (slice_set c.regs 4 (address_after (reg c Esp) 4)) 4 a }) sum
    ∙ ap (λ (l : List ℕ). record c { regs = l }) (set_twice c.regs 4 (address_after (reg c Esp) 4) (address_after (reg c Esp) (4 + n)))
