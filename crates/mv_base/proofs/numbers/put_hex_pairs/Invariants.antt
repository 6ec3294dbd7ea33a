use Rattle.std.proofs.Common.{◌≡◌, ◌++◌, take}
use Rattle.mv_base.specs.Text.{hex_text}
use Rattle.mv_base.proofs.numbers.put_hex_pairs.Given as goal

abbrev pub invariant-loop-byte : goal.invariant-loop-byte
invariant-loop-byte l = l.to.items ≡ l.fn.to.items ++ hex_text (take l.byte-index l.bytes)
