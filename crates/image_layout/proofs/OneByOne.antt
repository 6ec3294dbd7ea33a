-- The addresses of sites, and the places of runs, one by one.
use Rattle.std.proofs.Common.{◌≡◌, ℕ, zero, suc, ◌+◌, ◌*◌, ◌<◌, ◌≤◌, List, [], ◌∷◌, ◌++◌, length, get_or, take, map, sym, ap, ◌∙◌, arith}
use Rattle.std.proofs.lemmas.List.{take_more, take_all, length-map}
use Rattle.mv_base.specs.declared.range.RunPlace.{RunPlace}
use Rattle.mv_base.specs.Table.{group_count}
use Rattle.elf32_read.specs.declared.run.Run.{Run}
use Rattle.map_table.specs.Paged as paged
use Rattle.image_layout.specs.laws.Blocks.{length-run_places}

-- ---- the places of runs

-- the k-th of them
place_at : (rs : List Run) (dir k : ℕ) (r : Run) (d : RunPlace) → k < length rs → r ≡ get_or rs k r → get_or (paged.places_from dir rs) k d ≡ record { lo = r.lo; len = length r.bytes; dir = get_or (map (λ q. q.dir) (paged.places_from dir rs)) k 0 }
unfolding paged.places_from
place_at [] dir k r d lt e = absurd (omega arith)
place_at (q ∷ rs) dir zero r d lt e = ap (λ (x : Run). record { lo = x.lo; len = length x.bytes; dir = dir }) (sym e)
place_at (q ∷ rs) dir (suc k) r d lt e = place_at rs (dir + 4 * group_count (length q.bytes)) k r d (omega arith) e

pub places_step : (rs : List Run) (lo k : ℕ) (r : Run) (dirs : List ℕ) (len dir : ℕ) (now new : List RunPlace) → k < length rs → r ≡ get_or rs k r → dirs ≡ map (λ q. q.dir) (paged.places rs lo) → len ≡ length r.bytes → dir ≡ get_or dirs k 0
    → now ≡ take k (paged.places rs lo) → new ≡ now ++ record { lo = r.lo; len = len; dir = dir } ∷ [] → new ≡ take (k + 1) (paged.places rs lo)
places_step rs lo k r dirs len dir now new lt e dirs_are len_is dir_is h p =
    let place : RunPlace = record { lo = r.lo; len = len; dir = dir } in
    let dir_there : dir ≡ get_or (map (λ q. q.dir) (paged.places rs lo)) k 0 = dir_is ∙ ap (λ (l : List ℕ). get_or l k 0) dirs_are in
    let there : get_or (paged.places rs lo) k place ≡ place = place_at rs (lo + 4096) k r place lt e ∙ (λ i. record { lo = r.lo; len = sym len_is i; dir = sym dir_there i }) in
    p ∙ ap (λ (t : List RunPlace). t ++ place ∷ []) h ∙ ap (λ (q : RunPlace). take k (paged.places rs lo) ++ q ∷ []) (sym there) ∙ sym (take_more (paged.places rs lo) k place (omega (arith, lt, length-run_places (lo + 4096) rs)))

pub length-dirs : (rs : List Run) (lo : ℕ) (dirs : List ℕ) → dirs ≡ map (λ q. q.dir) (paged.places rs lo) → length dirs ≡ length rs
length-dirs rs lo dirs e = ap length e ∙ length-map (paged.places rs lo) (λ q. q.dir) ∙ length-run_places (lo + 4096) rs

pub places_done : (rs : List Run) (lo k : ℕ) (now : List RunPlace) → length rs ≤ k → now ≡ take k (paged.places rs lo) → now ≡ paged.places rs lo
places_done rs lo k now le h = h ∙ take_all k (paged.places rs lo) (omega (arith, le, length-run_places (lo + 4096) rs))
