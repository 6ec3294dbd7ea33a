use Rattle.call_rewrite.proofs.PieceBytes.{via_joined}
use Rattle.call_rewrite.proofs.pieces.read_target.Goals as goal

pub returns-clause-is : goal.returns-clause-is
returns-clause-is c = let e = via_joined c.args.load.now c.args.private in cc
