use Rattle.std.proofs.Common.{◌≡◌, drop}
use Rattle.mv_base.specs.Memory.{exec_bytes}
use Rattle.elf32_read.specs.Runs.{code_of, AreApart}
use Rattle.image_layout.proofs.code.bytes_from.Given as goal

abbrev pub invariant-loop-run : goal.invariant-loop-run
invariant-loop-run l = record {
  same : exec_bytes (code_of l.runs) l.at l.len ≡ exec_bytes (code_of (drop l.run-index l.runs)) l.at l.len;
  apart : AreApart 0 (drop l.run-index l.runs);
}
