use Rattle.std.proofs.Common.{◌≡◌, ◌+◌, ◌-◌, ◌++◌}
use Rattle.elf32_read.specs.Runs.{code_of}
use Rattle.mv_base.specs.Memory.{exec_bytes}
use Rattle.multiverse_cli.specs.Listing.{hex_pairs}
use Rattle.multiverse_cli.proofs.listing.put_bytes.Given as goal

abbrev pub invariant-loop-offset : goal.invariant-loop-offset
invariant-loop-offset l =
    l.to.items ++ hex_pairs (exec_bytes (code_of l.runs) (l.at + l.offset) (l.count - l.offset))
    ≡ l.fn.to.items ++ hex_pairs (exec_bytes (code_of l.runs) l.at l.count)
