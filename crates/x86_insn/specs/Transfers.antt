-- Control transfers: what they ask of memory, and where they go. Intel SDM, volume 2. `next` is the address after the
-- instruction.
use Rattle.std.specs.Prelude.{ℕ, ◌+◌, ◌==◌, ◌&&◌, Bool, not, List, if◌then◌else◌}
use Rattle.mv_base.specs.Memory.{address_after}
use Rattle.x86_insn.specs.declared.insn.Cond.{Cond}
use Rattle.x86_insn.specs.declared.insn.LoopKind.{LoopKind}
use Rattle.x86_insn.specs.declared.insn.LoopKind.TheVariants.{Ne, E, Plain, Ecxz}
use Rattle.x86_insn.specs.declared.insn.Reg.TheVariants.{Ecx, Esp}
use Rattle.x86_insn.specs.declared.insn.Rm.{Rm}
use Rattle.x86_insn.specs.declared.insn.Width.TheVariants.{D}
use Rattle.x86_insn.specs.State.{Core}
use Rattle.x86_insn.specs.Conditions.{holds}
use Rattle.x86_insn.specs.Operands.{reg, set_reg, address_before}
use Rattle.x86_insn.specs.Ask.{Ask, with_read, with_rm, ends}
use Rattle.x86_insn.specs.Moves.{risen, pushes}

-- the target of a displacement, modulo 2^32
abbrev pub target_of : ℕ → ℕ → ℕ
target_of next rel = address_after next rel

abbrev pub jump_hop : ℕ → ℕ → Core → Ask ℕ
jump_hop next rel c = ends (target_of next rel) c

abbrev pub branch_hop : ℕ → Cond → ℕ → Core → Ask ℕ
branch_hop next cond rel c = ends (if holds cond c.flags then target_of next rel else next) c

-- LOOP and its kin take 1 from ECX, and change no flag; JECXZ changes nothing
abbrev pub loop_core : LoopKind → Core → Core
loop_core Ne c = set_reg D Ecx (address_before (reg c Ecx) 1) c
loop_core E c = set_reg D Ecx (address_before (reg c Ecx) 1) c
loop_core Plain c = set_reg D Ecx (address_before (reg c Ecx) 1) c
loop_core Ecxz c = c

-- whether they jump, by the core after that
abbrev pub loop_jumps : LoopKind → Core → Bool
loop_jumps Ne c = not (reg c Ecx == 0) && not c.flags.zf
loop_jumps E c = not (reg c Ecx == 0) && c.flags.zf
loop_jumps Plain c = not (reg c Ecx == 0)
loop_jumps Ecxz c = reg c Ecx == 0

abbrev pub loop_hop : ℕ → LoopKind → ℕ → Core → Ask ℕ
loop_hop next kind rel c = ends (if loop_jumps kind (loop_core kind c) then target_of next rel else next) (loop_core kind c)

abbrev pub call_hop : ℕ → ℕ → Core → Ask ℕ
call_hop next rel c = pushes (target_of next rel) next c

-- the target is read before the push
abbrev pub call_via_hop : ℕ → Rm → Core → List (List ℕ) → Ask ℕ
call_via_hop next src c got = with_rm D c src got (λ to rest. pushes to next c)

abbrev pub jump_via_hop : Rm → Core → List (List ℕ) → Ask ℕ
jump_via_hop src c got = with_rm D c src got (λ to rest. ends to c)

-- ESP rises past the return address and as many bytes more as are dropped
abbrev pub return_hop : ℕ → Core → List (List ℕ) → Ask ℕ
return_hop drop c got = with_read (reg c Esp) D got (λ to rest. ends to (risen (4 + drop) c))
