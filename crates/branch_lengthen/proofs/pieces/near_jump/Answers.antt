use Rattle.std.proofs.Common.{◌≡◌, ℕ, ◌+◌, ◌-◌, ◌%◌, ◌^◌, ◌∷◌, ap, arith}
use Rattle.mv_base.specs.Bytes.{word}
use Rattle.mv_base.specs.Memory.{distance, address_after}
use Rattle.branch_lengthen.proofs.pieces.near_jump.Goals as goal

pub returns : goal.returns
unfolding word
returns c =
    let reach : (c.args.to + (2 ^ 32 - (c.args.here + 5) % 2 ^ 32)) % 2 ^ 32 ≡ distance (address_after c.args.here 5) c.args.to = omega arith in
    rw c.to_le_bytes-reach.ensures (ap (λ (n : ℕ). 0xE9 ∷ word n) reach)
