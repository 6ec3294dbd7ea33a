use Rattle.std.proofs.Common.{◌≡◌, [], ◌∷◌, ◌++◌}
use Rattle.std.specs.List.{filter_map, range_with_len}
use Rattle.elf32_read.specs.Runs.{code_of}
use Rattle.superset.specs.Sites.{site_at}
use Rattle.superset.proofs.disassembly.add_sites.Given as goal

abbrev pub invariant-loop-offset : goal.invariant-loop-offset
invariant-loop-offset l =
    l.found.items ≡ l.fn.found.items ++ filter_map (site_at (code_of (l.run ∷ []))) (range_with_len l.run.lo l.offset)
