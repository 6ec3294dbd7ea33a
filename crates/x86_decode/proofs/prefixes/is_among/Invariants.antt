use Rattle.std.proofs.Common.{◌≡◌, drop}
use Rattle.x86_insn.specs.Prefixes.{is_among}
use Rattle.x86_decode.proofs.prefixes.is_among.Given as goal

-- it isn't among those looked at
abbrev pub invariant-loop-other : goal.invariant-loop-other
invariant-loop-other l = is_among (drop l.other-index l.list) l.byte ≡ is_among l.list l.byte
