use Rattle.std.proofs.Common.{◌≡◌, ◌<◌, ℕ, true}
use Rattle.elf32_write.specs.Frame.{pair_at}
use Rattle.pair_check.specs.Parts.{is_behind}
use Rattle.pair_check.specs.Walking.{pair_before}
use Rattle.pair_check.proofs.counted.ordered_count.Given as goal

abbrev pub invariant-loop-index : goal.invariant-loop-index
invariant-loop-index l = (k : ℕ) → k < l.index → is_behind (pair_before l.frame k) (pair_at l.frame k) ≡ true
