use Rattle.std.proofs.Common.{◌≡◌, ℕ, [], ◌+◌, ◌-◌, length, get_or}
use Rattle.proc_image.proofs.page.PageTable.reserve.Given as goal

abbrev pub invariant-loop-alloc : goal.invariant-loop-alloc
invariant-loop-alloc l = (q : ℕ) → get_or l.self-inside.pages.items q [] ≡ get_or l.initial.self-inside.pages.items q []

abbrev pub decreases-loop-alloc : goal.decreases-loop-alloc
decreases-loop-alloc l = l.number + 1 - length l.self-inside.pages.items
