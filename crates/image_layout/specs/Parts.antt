-- What stands behind the stub, and where: chains as pieces one behind the other, without gaps, and joins. Lengths alone
-- say where each stands. This project's own.
use Rattle.std.specs.Prelude.{ℕ, ◌+◌, Bool, false, List, [], ◌∷◌, ◌++◌, map, Option, Some, None, slice_index, ◌==◌, if◌then◌else◌}
use Rattle.std.specs.List.{flat_map}
use Rattle.sequence_join.specs.Chains.{Chain}

-- the piece of the site of an index, or a join to where an address now is
pub data Part : Type 0 where
  Piece : (k : ℕ) → Part
  Join : (to : ℕ) → Part

-- a join where a chain has a next
abbrev pub join_parts : Option ℕ → List Part
join_parts None = []
join_parts (Some to) = Join to ∷ []

-- the parts of a chain with these links: their pieces, and a join where it has a next
abbrev pub link_parts : List ℕ → Option ℕ → List Part
link_parts links next = map (λ k. Piece k) links ++ join_parts next

abbrev pub chain_parts : Chain → List Part
chain_parts c = link_parts c.links c.next

-- the parts of chains, chain by chain
abbrev pub parts : List Chain → List Part
parts cs = flat_map chain_parts cs

-- how many bytes a part has, by the lengths of the sites' pieces; a join is a near jump
abbrev pub part_len : List ℕ → Part → ℕ
part_len lens (Piece k) = slice_index lens k
part_len lens (Join to) = 5

unfoldable pub parts_len : List ℕ → List Part → ℕ
parts_len lens [] = 0
parts_len lens (p ∷ ps) = part_len lens p + parts_len lens ps

-- parts without gaps, from an address on: each with the address at which it stands
unfoldable pub placed : List ℕ → ℕ → List Part → List (ℕ × Part)
placed lens here [] = []
placed lens here (p ∷ ps) = (here, p) ∷ placed lens (here + part_len lens p) ps

-- a part is the piece of the site of index k
abbrev pub is_piece : ℕ → Part → Bool
is_piece k (Piece j) = j == k
is_piece k (Join to) = false

-- where the piece of the site of index k stands, or `none` where it doesn't
unfoldable pub place_or : ℕ → List (ℕ × Part) → ℕ → ℕ
place_or none [] k = none
place_or none (q ∷ qs) k = place_or (if is_piece k q.1 then q.0 else none) qs k

-- the entry of the site of index k: the place of its piece, or 0
abbrev pub entry : List ℕ → ℕ → List Part → ℕ → ℕ
entry lens here ps k = place_or 0 (placed lens here ps) k
