use Rattle.std.proofs.Common.{◌≡◌, ◌≤◌, take}
use Rattle.multiverse_cli.specs.Outside.{stored}
use Rattle.multiverse_cli.specs.Steps.{AreReadSoFar}
use Rattle.multiverse_cli.specs.Words.{texts}
use Rattle.multiverse_cli.proofs.carry.read_files.Given as goal

abbrev pub invariant-loop-name : goal.invariant-loop-name
invariant-loop-name g l = record {
  tells : g.S.Store.tells l.store ≡ g.S.Store.tells l.initial.store;
  holds : g.S.Store.holds l.store ≡ g.S.Store.holds l.initial.store;
  reads : g.S.Store.read_faults l.initial.store ≤ g.S.Store.read_faults l.store;
  reads_same : g.S.Store.read_faults l.store ≡ g.S.Store.read_faults l.initial.store;
  writes : g.S.Store.write_faults l.store ≡ g.S.Store.write_faults l.initial.store;
  so_far : AreReadSoFar l.oversized (stored g.S.Store l.initial.store l.initial.store) (texts (take l.name-index l.names)) l.files.items;
}
