-- Rounds of moves to and from GS. Intel SDM, volume 2, MOV, and volume 3, sections 3.4.2 and 3.4.3; which descriptors there
-- are is this project's own.
use Rattle.std.specs.Prelude.{ℕ, ◌/◌, ◌%◌, ◌==◌, nat_lt, false, Bool, List, Option, Some, None, if◌then◌else◌}
use Rattle.mv_base.specs.Effects.{Descs, base_at}
use Rattle.x86_insn.specs.declared.insn.Rm.{Rm}
use Rattle.x86_insn.specs.declared.insn.Rm.TheVariants as rm
use Rattle.x86_insn.specs.declared.insn.Width.{Width}
use Rattle.x86_insn.specs.declared.insn.Width.TheVariants.{W}
use Rattle.x86_insn.specs.State.{Core, Trap, Protection}
use Rattle.x86_insn.specs.Values.{modulus}
use Rattle.x86_insn.specs.Operands.{set_reg, bytes_of, effective_address}
use Rattle.x86_insn.specs.Ask.{Ask, Halts, Ends, with_rm, ends}

-- GS gets a selector, with a base or without one
abbrev pub set_gs : ℕ → Option ℕ → Core → Core
set_gs selector base c = record c { gs = selector; gs_base = base }

abbrev pub loaded_from : Option ℕ → ℕ → Core → Ask Bool
loaded_from None selector c = Halts (Trap Protection 0)
loaded_from (Some base) selector c = ends false (set_gs selector (Some base) c)

-- a selector from 0 to 3 names no descriptor; any other has to have the low bits of a user's, and its index a base
abbrev pub loaded : Descs → ℕ → Core → Ask Bool
loaded ds selector c =
    if nat_lt selector 4 then ends false (set_gs selector None c)
    else if selector % 8 == 3 then loaded_from (base_at ds (selector / 8)) selector c
    else Halts (Trap Protection 0)

-- the two low bytes of a register, or two bytes of memory
abbrev pub to_gs_round : Descs → Rm → Core → List (List ℕ) → Ask Bool
to_gs_round ds src c got = with_rm W c src got (λ selector rest. loaded ds selector c)

-- two bytes to memory; to a register the selector at its width
abbrev pub from_gs_round : Width → Rm → Core → Ask Bool
from_gs_round w (rm.R r) c = ends false (set_reg w r (c.gs % modulus w) c)
from_gs_round w (rm.M m) c = Ends c (Some (effective_address c m, bytes_of W c.gs)) false
