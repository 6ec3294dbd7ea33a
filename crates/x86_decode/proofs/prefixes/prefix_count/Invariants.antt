use Rattle.std.proofs.Common.{◌≡◌, ◌+◌, length, drop}
use Rattle.x86_insn.specs.Spelling.{front}
use Rattle.x86_decode.proofs.prefixes.prefix_count.Given as goal

-- those looked at are prefixes
abbrev pub invariant-loop-byte : goal.invariant-loop-byte
invariant-loop-byte l = record {
  counted : l.count ≡ l.byte-index;
  whole : l.byte-index + length (front (drop l.byte-index l.bytes)) ≡ length (front l.bytes);
}
