use Rattle.std.proofs.Common.{◌≡◌, ◌++◌, length, option_map}
use Rattle.mv_base.specs.Reading.{pairs_in}
use Rattle.mv_base.proofs.reading.hex_pairs.Given as goal

abbrev pub invariant-loop-rest : goal.invariant-loop-rest
invariant-loop-rest l = option_map (λ more. l.bytes.items ++ more) (pairs_in l.rest) ≡ pairs_in l.text

abbrev pub decreases-loop-rest : goal.decreases-loop-rest
decreases-loop-rest l = length l.rest
