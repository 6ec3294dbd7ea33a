-- Looking at addresses one after the other: what is left to look at says what the whole says.
use Rattle.std.proofs.Common.{◌≡◌, ℕ, zero, suc, ◌+◌, ◌-◌, ◌<◌, ◌≤◌, Bool, true, false, List, [], ◌∷◌, ◌++◌, length, drop, get_or, Option, Some, None, refl, sym, ap, ◌∙◌, subst, arith}
use Rattle.std.specs.Prelude.{Ok, Err, slice_get, if◌then◌else◌}
use Rattle.std.specs.Option.{option_or, option_map}
use Rattle.std.specs.List.{filter_map, range_with_len, cons_option}
use Rattle.std.proofs.lemmas.List.{length-append, drop_all, drop_more}
use Rattle.std.proofs.lemmas.List.Elements.{filter_map-append}
use Rattle.std.proofs.lemmas.Option.{none-some, slice_get_past}
use Rattle.mv_base.specs.Memory.{exec_bytes, within}
use Rattle.elf32_read.specs.declared.run.Run.{Run}
use Rattle.elf32_read.specs.Runs.{code_of, AreSpread}
use Rattle.elf32_write.specs.Frame.{Frame, frame_entry}
use Rattle.elf32_write.specs.Within.{within_parts}
use Rattle.x86_insn.specs.Step.{fetch_in}
use Rattle.superset.specs.declared.site.Site.{Site}
use Rattle.superset.specs.Sites.{addresses, run_addresses}
use Rattle.superset.specs.RunBytes.{code_first, code_later, exec_same, run_byte, site_same}
use Rattle.simulation_laws.specs.declared.front.Difference.{Difference}
use Rattle.simulation_laws.specs.Code.{site_at}
use Rattle.simulation_laws.specs.laws.Pieced.{difference_same}
use Rattle.image_layout.specs.laws.SiteFacts.{is_site_at}
use Rattle.pair_check.specs.declared.differs.Differs.{Differs}
use Rattle.pair_check.specs.declared.differs.Part.TheVariants.{Entry, Piece}
use Rattle.pair_check.specs.Parts.{differs_at, address_differs, site_differs, first_among}
use Rattle.pair_check.specs.Walking.{FitWays, Finds, IsSeen, site_count}

-- ---- one list behind another

pub among-append : (test : ℕ → Option Differs) (xs ys : List ℕ) → first_among test (xs ++ ys) ≡ option_or (first_among test xs) (first_among test ys)
among-append test [] ys = refl
among-append test (x ∷ xs) ys = ap (option_or (test x)) (among-append test xs ys) ∙ assoc (test x)
  where
    assoc : (o : Option Differs) → option_or o (option_or (first_among test xs) (first_among test ys)) ≡ option_or (option_or o (first_among test xs)) (first_among test ys)
    assoc None = refl
    assoc (Some d) = refl

pub among_same : (f g : ℕ → Option Differs) (n lo : ℕ) → ((k : ℕ) → k < n → f (lo + k) ≡ g (lo + k)) → first_among f (range_with_len lo n) ≡ first_among g (range_with_len lo n)
among_same f g zero lo same = refl
among_same f g (suc n) lo same =
    let first : f lo ≡ g lo = subst (λ a. f a ≡ g a) (omega arith) (same 0 (omega arith)) in
    let rest = among_same f g n (lo + 1) (λ k l. subst (λ a. f a ≡ g a) (omega arith) (same (k + 1) (omega arith))) in
    λ i. option_or (first i) (rest i)

filter_same : (f g : ℕ → Option Site) (n lo : ℕ) → ((k : ℕ) → k < n → f (lo + k) ≡ g (lo + k)) → filter_map f (range_with_len lo n) ≡ filter_map g (range_with_len lo n)
filter_same f g zero lo same = refl
filter_same f g (suc n) lo same =
    let first : f lo ≡ g lo = subst (λ a. f a ≡ g a) (omega arith) (same 0 (omega arith)) in
    let rest = filter_same f g n (lo + 1) (λ k l. subst (λ a. f a ≡ g a) (omega arith) (same (k + 1) (omega arith))) in
    λ i. cons_option (first i) (rest i)

counted_site : (o : Option Site) (ss : List Site) → length (cons_option o ss) ≡ site_count o + length ss
counted_site None ss = omega arith
counted_site (Some s) ss = omega arith

-- ---- in a run

range_cons : (lo n k : ℕ) → k < n → range_with_len (lo + k) (n - k) ≡ (lo + k) ∷ range_with_len (lo + (k + 1)) (n - (k + 1))
range_cons lo n k lt =
    let more : n - k ≡ suc (n - (k + 1)) = omega arith in
    let next : lo + k + 1 ≡ lo + (k + 1) = omega arith in
    ap (range_with_len (lo + k)) more ∙ ap (λ a. (lo + k) ∷ range_with_len a (n - (k + 1))) next

-- the addresses of a run from an offset on
abbrev rest_of : Run → ℕ → List ℕ
rest_of r k = range_with_len (r.lo + k) (length r.bytes - k)

-- nothing is wrong before an offset, and so many sites are before it
pub record IsWalking (f : Frame) (code : ℕ → Option ℕ) (r : Run) (k n : ℕ) : Type 0 where
  pub same : first_among (address_differs f code) (run_addresses r) ≡ first_among (address_differs f code) (rest_of r k)
  pub sites : length (filter_map (site_at code) (run_addresses r)) ≡ n + length (filter_map (site_at code) (rest_of r k))
  pub most : n ≤ k

pub walk_starts : (f : Frame) (code : ℕ → Option ℕ) (r : Run) → IsWalking f code r 0 0
walk_starts f code r =
    let whole : run_addresses r ≡ rest_of r 0 = λ i. range_with_len ((let e : r.lo ≡ r.lo + 0 = omega arith in e) i) ((let e : length r.bytes ≡ length r.bytes - 0 = omega arith in e) i) in
    let count : length (filter_map (site_at code) (run_addresses r)) ≡ length (filter_map (site_at code) (rest_of r 0)) = ap (λ at. length (filter_map (site_at code) at)) whole in
    record { same = ap (first_among (address_differs f code)) whole; sites = omega (arith, count); most = omega arith }

pub walk_goes : (f : Frame) (code : ℕ → Option ℕ) (r : Run) (k n m : ℕ) → k < length r.bytes → IsWalking f code r k n → Finds (address_differs f code (r.lo + k)) (site_count (site_at code (r.lo + k))) (Ok m) → IsWalking f code r (k + 1) (n + m)
walk_goes f code r k n m lt is found =
    let cut = range_cons r.lo (length r.bytes) k lt in
    let counts : length (filter_map (site_at code) (rest_of r k)) ≡ m + length (filter_map (site_at code) (rest_of r (k + 1))) =
    ap (λ at. length (filter_map (site_at code) at)) cut ∙ (counted_site (site_at code (r.lo + k)) (filter_map (site_at code) (rest_of r (k + 1))) ∙ ap (λ c. c + length (filter_map (site_at code) (rest_of r (k + 1)))) (sym found.1)) in
    record {
      same = is.same ∙ (ap (first_among (address_differs f code)) cut ∙ ap (λ o. option_or o (first_among (address_differs f code) (rest_of r (k + 1)))) found.0);
      sites = omega (arith, is.sites, counts);
      most = omega (arith, is.most, one (site_at code (r.lo + k)), found.1);
    }
  where
    one : (o : Option Site) → site_count o ≤ 1
    one None = omega arith
    one (Some s) = omega arith

pub walk_stops : (f : Frame) (code : ℕ → Option ℕ) (r : Run) (k n : ℕ) (d : Differs) → k < length r.bytes → IsWalking f code r k n → address_differs f code (r.lo + k) ≡ Some d → first_among (address_differs f code) (run_addresses r) ≡ Some d
walk_stops f code r k n d lt is found =
    is.same ∙ (ap (first_among (address_differs f code)) (range_cons r.lo (length r.bytes) k lt) ∙ ap (λ o. option_or o (first_among (address_differs f code) (rest_of r (k + 1)))) found)

pub walk_ends : (f : Frame) (code : ℕ → Option ℕ) (r : Run) (k n : ℕ) → length r.bytes ≤ k → IsWalking f code r k n → Finds (first_among (address_differs f code) (run_addresses r)) (length (filter_map (site_at code) (run_addresses r))) (Ok n)
walk_ends f code r k n le is =
    let none : rest_of r k ≡ [] = ap (range_with_len (r.lo + k)) (let e : length r.bytes - k ≡ 0 = omega arith in e) in
    let no_sites : length (filter_map (site_at code) (rest_of r k)) ≡ 0 = ap (λ at. length (filter_map (site_at code) at)) none in
    (is.same ∙ ap (first_among (address_differs f code)) none, omega (arith, is.sites, no_sites))

-- ---- runs

-- a run of a list has the bytes that the list has there
pub run_code : (from : ℕ) (rs : List Run) (i : ℕ) (r : Run) → AreSpread from rs → i < length rs → r ≡ get_or rs i r → (from ≤ r.lo) × ((b : ℕ) → r.lo ≤ b → b ≤ r.lo + length r.bytes → code_of rs b ≡ code_of (r ∷ []) b)
run_code from [] i r spread lt e = absurd (omega (arith, lt))
run_code from (q ∷ rs) zero r spread lt e =
    subst (λ (p : Run). (from ≤ p.lo) × ((b : ℕ) → p.lo ≤ b → b ≤ p.lo + length p.bytes → code_of (q ∷ rs) b ≡ code_of (p ∷ []) b)) (sym e)
    (spread.0, λ b low high. code_first from q rs spread b high)
run_code from (q ∷ rs) (suc i) r spread lt e =
    let rest = run_code (q.lo + length q.bytes + 1) rs i r spread.2 (omega (arith, lt)) e in
    (omega (arith, rest.0, spread.0), λ b low high. code_later q rs b (omega (arith, low, rest.0)) ∙ rest.1 b low high)

pub run_ends : (r : Run) → code_of (r ∷ []) (r.lo + length r.bytes) ≡ None
run_ends r = run_byte r (length r.bytes) ∙ slice_get_past r.bytes (length r.bytes) (omega arith)

-- so the same is found there
pub site_alike : (code : ℕ → Option ℕ) (r : Run) (a : ℕ) → ((b : ℕ) → r.lo ≤ b → b ≤ r.lo + length r.bytes → code b ≡ code_of (r ∷ []) b) → r.lo ≤ a → a < r.lo + length r.bytes → site_at code a ≡ site_at (code_of (r ∷ [])) a
site_alike code r a same low high = site_same code (code_of (r ∷ [])) a (r.lo + length r.bytes) (omega arith) (run_ends r) (λ b l h. same b (omega (arith, low, l)) h)

pub address_alike : (f : Frame) (code : ℕ → Option ℕ) (r : Run) (a : ℕ) → ((b : ℕ) → r.lo ≤ b → b ≤ r.lo + length r.bytes → code b ≡ code_of (r ∷ []) b) → r.lo ≤ a → a < r.lo + length r.bytes → address_differs f code a ≡ address_differs f (code_of (r ∷ [])) a
address_alike f code r a same low high =
    ap (site_differs f code a) (site_alike code r a same low high) ∙ go (site_at (code_of (r ∷ [])) a) refl
  where
    go : (o : Option Site) → site_at (code_of (r ∷ [])) a ≡ o → site_differs f code a o ≡ site_differs f (code_of (r ∷ [])) a o
    go None e = refl
    go (Some s) e =
        let here = (is_site_at (code_of (r ∷ [])) a s e).here in
        let bytes : exec_bytes code s.at s.len ≡ exec_bytes (code_of (r ∷ [])) s.at s.len =
        exec_same code (code_of (r ∷ [])) s.len s.at (r.lo + length r.bytes) (omega (arith, here, high)) (run_ends r) (λ b l h. same b (omega (arith, low, l, here)) h) in
        ap (λ (d : Option Difference). if within f.code.lo f.code.len (frame_entry f a) then option_map (λ e. record { part = Piece; at = a; kept = e.kept; found = e.found }) d else differs_at Entry a f.code.lo (frame_entry f a))
        (difference_same f code (code_of (r ∷ [])) s bytes)

-- an address with a byte of a run lies in it
in_run : (r : Run) (a y : ℕ) → code_of (r ∷ []) a ≡ Some y → (r.lo ≤ a) × (a < r.lo + length r.bytes)
in_run r a y e = go (within r.lo (length r.bytes) a) refl e
  where
    go : (v : Bool) → within r.lo (length r.bytes) a ≡ v → (if v then slice_get r.bytes (a - r.lo) else None) ≡ Some y → (r.lo ≤ a) × (a < r.lo + length r.bytes)
    go true e h = within_parts r.lo (length r.bytes) a e
    go false e h = absurd (none-some y h)

-- and ways fit there as they do in the whole code
pub fits_run : (f : Frame) (rs : List Run) (i : ℕ) (r : Run) → AreSpread 0 rs → i < length rs → r ≡ get_or rs i r → FitWays f (code_of rs) → FitWays f (code_of (r ∷ []))
fits_run f rs i r spread lt at fits a s e =
    let site = is_site_at (code_of (r ∷ [])) a s e in
    let w = in_run r a site.starts.0 site.starts.1 in
    fits a s (site_alike (code_of rs) r a (run_code 0 rs i r spread lt at).1 w.0 w.1 ∙ e)

-- ---- run by run

abbrev tests : Frame → List Run → ℕ → Option Differs
tests f rs = address_differs f (code_of rs)

abbrev sites_from : List Run → ℕ → ℕ
sites_from rs i = length (filter_map (site_at (code_of rs)) (addresses (drop i rs)))

-- nothing is wrong in the runs before one, and so many sites are in them
pub record IsGoing (f : Frame) (rs : List Run) (i n : ℕ) : Type 0 where
  pub same : first_among (tests f rs) (addresses rs) ≡ first_among (tests f rs) (addresses (drop i rs))
  pub sites : length (filter_map (site_at (code_of rs)) (addresses rs)) ≡ n + sites_from rs i

pub going_starts : (f : Frame) (rs : List Run) → IsGoing f rs 0 0
going_starts f rs = record { same = refl; sites = omega arith }

module _ (f : Frame) (rs : List Run) (i : ℕ) (r : Run) (spread : AreSpread 0 rs) (lt : i < length rs) (at : r ≡ get_or rs i r) where
  cut : addresses (drop i rs) ≡ run_addresses r ++ addresses (drop (i + 1) rs)
  unfolding addresses
  cut = ap addresses (drop_more rs i r lt ∙ ap (λ (q : Run). q ∷ drop (i + 1) rs) (sym at))

  alike : (a : ℕ) → r.lo ≤ a → a < r.lo + length r.bytes → tests f rs a ≡ address_differs f (code_of (r ∷ [])) a
  alike a low high = address_alike f (code_of rs) r a (run_code 0 rs i r spread lt at).1 low high

  same_tests : first_among (tests f rs) (run_addresses r) ≡ first_among (address_differs f (code_of (r ∷ []))) (run_addresses r)
  same_tests = among_same (tests f rs) (address_differs f (code_of (r ∷ []))) (length r.bytes) r.lo (λ k l. alike (r.lo + k) (omega arith) (omega (arith, l)))

  same_sites : filter_map (site_at (code_of rs)) (run_addresses r) ≡ filter_map (site_at (code_of (r ∷ []))) (run_addresses r)
  same_sites = filter_same (site_at (code_of rs)) (site_at (code_of (r ∷ []))) (length r.bytes) r.lo (λ k l. site_alike (code_of rs) r (r.lo + k) (run_code 0 rs i r spread lt at).1 (omega arith) (omega (arith, l)))

  here : first_among (tests f rs) (addresses (drop i rs)) ≡ option_or (first_among (address_differs f (code_of (r ∷ []))) (run_addresses r)) (first_among (tests f rs) (addresses (drop (i + 1) rs)))
  here =
      ap (first_among (tests f rs)) cut
      ∙ (among-append (tests f rs) (run_addresses r) (addresses (drop (i + 1) rs))
      ∙ ap (λ o. option_or o (first_among (tests f rs) (addresses (drop (i + 1) rs)))) same_tests)

  sites_here : sites_from rs i ≡ length (filter_map (site_at (code_of (r ∷ []))) (run_addresses r)) + sites_from rs (i + 1)
  sites_here =
      ap (λ at. length (filter_map (site_at (code_of rs)) at)) cut
      ∙ (ap length (filter_map-append (site_at (code_of rs)) (run_addresses r) (addresses (drop (i + 1) rs)))
      ∙ (length-append (filter_map (site_at (code_of rs)) (run_addresses r)) (filter_map (site_at (code_of rs)) (addresses (drop (i + 1) rs)))
      ∙ ap (λ ss. length ss + sites_from rs (i + 1)) same_sites))

  pub going_goes : (n m : ℕ) → IsGoing f rs i n → IsSeen f (code_of (r ∷ [])) (run_addresses r) (Ok m) → IsGoing f rs (i + 1) (n + m)
  going_goes n m is seen = record {
    same = is.same ∙ (here ∙ ap (λ o. option_or o (first_among (tests f rs) (addresses (drop (i + 1) rs)))) seen.0);
    sites = omega (arith, is.sites, sites_here, seen.1);
  }

  pub going_stops : (n : ℕ) (d : Differs) → IsGoing f rs i n → IsSeen f (code_of (r ∷ [])) (run_addresses r) (Err d) → first_among (tests f rs) (addresses rs) ≡ Some d
  going_stops n d is seen = is.same ∙ (here ∙ ap (λ o. option_or o (first_among (tests f rs) (addresses (drop (i + 1) rs)))) seen)

pub going_ends : (f : Frame) (rs : List Run) (i n : ℕ) → length rs ≤ i → IsGoing f rs i n → IsSeen f (code_of rs) (addresses rs) (Ok n)
unfolding addresses
going_ends f rs i n le is =
    let none : addresses (drop i rs) ≡ [] = ap addresses (drop_all i rs le) in
    let no_sites : sites_from rs i ≡ 0 = ap (λ at. length (filter_map (site_at (code_of rs)) at)) none in
    (is.same ∙ ap (first_among (tests f rs)) none, omega (arith, is.sites, no_sites))

pub filter_most : (f : ℕ → Option Site) (xs : List ℕ) → length (filter_map f xs) ≤ length xs
filter_most f [] = omega arith
filter_most f (x ∷ xs) = omega (arith, counted_site (f x) (filter_map f xs), one (f x), filter_most f xs)
  where
    one : (o : Option Site) → site_count o ≤ 1
    one None = omega arith
    one (Some s) = omega arith

-- an address without a byte is no site
pub no_site : (code : ℕ → Option ℕ) (a : ℕ) → code a ≡ None → site_at code a ≡ None
unfolding fetch_in
no_site code a h = rw h refl
