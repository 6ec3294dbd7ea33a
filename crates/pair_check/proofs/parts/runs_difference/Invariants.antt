use Rattle.std.proofs.Common.{◌≡◌, ◌+◌, ◌*◌, drop}
use Rattle.simulation_laws.specs.Front.{difference}
use Rattle.pair_check.specs.Parts.{run_numbers, place_numbers}
use Rattle.pair_check.proofs.Numbers.{run_words, place_words}
use Rattle.pair_check.proofs.parts.runs_difference.Given as goal

abbrev pub invariant-loop-index : goal.invariant-loop-index
invariant-loop-index l = difference 0 (run_numbers l.runs) (place_numbers l.frame.runs) ≡ difference (1 + 2 * l.index) (run_words (drop l.index l.runs)) (place_words (drop l.index l.frame.runs))
