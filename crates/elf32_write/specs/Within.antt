-- What holds of an address that lies in a range.
use Rattle.std.specs.Prelude.{◌≡◌, ℕ, ◌+◌, ◌<◌, ◌≤◌, true}
use Rattle.std.proofs.Common.{ltb, leb}
use Rattle.std.proofs.lemmas.Bool.{leb-true, ltb-true, and_parts}
use Rattle.mv_base.specs.Memory.{within}

pub within_parts : (lo len a : ℕ) → within lo len a ≡ true → (lo ≤ a) × (a < lo + len)
within_parts lo len a h =
    let p = and_parts (leb lo a) (ltb a (lo + len)) h in
    (leb-true lo a p.0, ltb-true a (lo + len) p.1)
