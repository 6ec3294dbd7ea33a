use Rattle.std.proofs.Common.{◌≡◌, ℕ, [], ◌+◌, ◌-◌, ◌/◌, length, get_or}
use Rattle.proc_image.proofs.memory.Memory.reserve.Given as goal

abbrev pub invariant-loop-self : goal.invariant-loop-self
invariant-loop-self l = (q : ℕ) → get_or l.self.directory.items q [] ≡ get_or l.initial.self.directory.items q []

abbrev pub decreases-loop-self : goal.decreases-loop-self
decreases-loop-self l = l.number / 1024 + 1 - length l.self.directory.items
