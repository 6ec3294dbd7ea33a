use Rattle.std.proofs.Common.{◌≡◌, ℕ, ◌+◌, ◌-◌, ◌%◌, ◌^◌, ◌∷◌, ap₂, arith}
use Rattle.mv_base.specs.Bytes.{word}
use Rattle.mv_base.specs.Memory.{distance, address_after}
use Rattle.branch_lengthen.proofs.pieces.near_branch.Goals as goal

pub returns : goal.returns
unfolding word
returns c =
    let reach : (c.args.to + (2 ^ 32 - (c.args.here + 6) % 2 ^ 32)) % 2 ^ 32 ≡ distance (address_after c.args.here 6) c.args.to = omega arith in
    rw c.to_le_bytes-reach.ensures (ap₂ (λ (k n : ℕ). 0x0F ∷ (0x80 + k) ∷ word n) c.number.ensures.is reach)
