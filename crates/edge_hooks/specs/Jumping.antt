-- Which of its two ways a branch or a loop goes, and what it changes. Intel SDM, volume 2, Jcc and LOOP.
use Rattle.std.specs.Prelude.{ℕ, Bool, Option, Some, None}
use Rattle.x86_insn.specs.declared.registers.Core.{Core}
use Rattle.x86_insn.specs.declared.insn.Insn.{Insn}
use Rattle.x86_insn.specs.declared.insn.Insn.TheVariants as insn
use Rattle.x86_insn.specs.Conditions.{holds}
use Rattle.x86_insn.specs.State.{State}
use Rattle.x86_insn.specs.Transfers.{loop_core, loop_jumps}

-- whether an instruction jumps, where it is a branch or a loop
abbrev pub insn_jumps : Insn → Core → Option Bool
insn_jumps (insn.Branch cond rel) c = Some (holds cond c.flags)
insn_jumps (insn.Loop kind rel) c = Some (loop_jumps kind (loop_core kind c))
insn_jumps _ c = None

-- the core after it: LOOP and its kin take 1 from ECX
abbrev pub core_after : Insn → Core → Core
core_after (insn.Loop kind rel) c = loop_core kind c
core_after _ c = c

-- the state after it, where it goes to an address
abbrev pub gone : State → Insn → ℕ → State
gone s i e = record s { core = core_after i s.core; eip = e }
