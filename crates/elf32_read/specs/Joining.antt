-- Runs that are being joined, segment by segment. This project's own.
use Rattle.std.specs.Prelude.{ℕ, List, ◌++◌}
use Rattle.elf32_read.specs.declared.image.Segment.{Segment}
use Rattle.elf32_read.specs.declared.run.Joining.{Joining}
use Rattle.elf32_read.specs.declared.run.Run.{Run}
use Rattle.elf32_read.specs.Runs.{join_last, runs_in}

-- the runs so far, with those of segments behind them
abbrev pub runs_with : List ℕ → Joining → List Segment → List Run
runs_with b joining ss = joining.done.items ++ join_last joining.last (runs_in b ss)
