use Rattle.std.proofs.Common.{◌≡◌, map}
use Rattle.std.specs.List.{range_with_len}
use Rattle.elf32_write.specs.Frame.{pair_at}
use Rattle.mv_rewrite.specs.Upgrading.{of_kind}
use Rattle.mv_rewrite.proofs.upgrading.of_kind.Given as goal

abbrev pub invariant-loop-index : goal.invariant-loop-index
invariant-loop-index l = l.addresses.items ≡ of_kind l.fn.kind (map (pair_at l.fn.frame) (range_with_len 0 l.index))
