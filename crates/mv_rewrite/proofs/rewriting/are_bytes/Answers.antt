use Rattle.std.proofs.Common.{arith}
use Rattle.mv_rewrite.proofs.rewriting.are_bytes.Goals as goal

pub returns : goal.returns
returns c = λ k. omega (arith, c.type_inv._bytes k)
