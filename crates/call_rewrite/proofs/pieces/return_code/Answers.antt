use Rattle.std.proofs.Common.{arith}
use Rattle.call_rewrite.proofs.PieceBytes.{return_none, return_some}
use Rattle.call_rewrite.proofs.pieces.return_code.Goals as goal

pub returns-then-drop-eq0 : goal.returns-then-drop-eq0
returns-then-drop-eq0 c = let e = return_none c.args.drop c.args.here c.args.stub c.args.private (omega arith) in cc

pub returns : goal.returns
returns c = let e = return_some c.args.drop c.args.here c.args.stub c.args.private (λ z. omega arith) in cc
