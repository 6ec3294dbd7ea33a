use Rattle.std.proofs.Common.{◌≡◌, IsTrue, take}
use Rattle.elf32_read.specs.Runs.{code_of}
use Rattle.multiverse_cli.specs.Listing.{site_lines}
use Rattle.multiverse_cli.proofs.Gathering.{IsGathered}
use Rattle.multiverse_cli.proofs.report.put_lines.Given as goal

abbrev pub invariant-loop-site : goal.invariant-loop-site
invariant-loop-site g l = record {
  tells : g.K.Sink.tells l.out ≡ g.K.Sink.tells l.initial.out;
  faults : g.K.Sink.faults l.out ≡ g.K.Sink.faults l.initial.out;
  gathered : IsTrue (g.K.Sink.tells l.initial.out)
      → IsGathered (g.K.Sink.written l.initial.out) (g.K.Sink.written l.out) l.piece.items (site_lines (code_of l.runs) (take l.site-index l.sites));
}
