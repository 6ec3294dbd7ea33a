-- What was read so far is what the reader lost, and it is at most one byte over the limit.
use Rattle.std.proofs.Common.{◌+◌, ◌-◌, ◌≤◌, length}
use Rattle.std.specs.Io.KnownBytes.{Consumes}
use Rattle.mv_base.proofs.pieces.read_pieces.Given as goal

abbrev pub invariant-loop-piece : goal.invariant-loop-piece
invariant-loop-piece g l =
    (length l.to.items ≤ l.limit + 1)
    × Consumes (g.F.Read.remaining l.initial.from) (g.F.Read.remaining l.from) l.to.items

abbrev pub decreases-loop-piece : goal.decreases-loop-piece
decreases-loop-piece g l = l.limit + 1 - length l.to.items
