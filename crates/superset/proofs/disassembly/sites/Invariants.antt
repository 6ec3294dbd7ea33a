use Rattle.std.proofs.Common.{◌≡◌, take}
use Rattle.std.specs.List.{flat_map}
use Rattle.superset.proofs.RunSites.{run_sites}
use Rattle.superset.proofs.disassembly.sites.Given as goal

abbrev pub invariant-loop-run : goal.invariant-loop-run
invariant-loop-run l = l.found.items ≡ flat_map run_sites (take l.run-index l.runs)
