-- The sites of runs: what each is, where it stands in the list, and that their addresses ascend.
use Rattle.std.proofs.Common.{◌≡◌, ℕ, zero, suc, ◌+◌, ◌<◌, ◌≤◌, ◌⊎◌, List, [], ◌∷◌, length, get_or, map, Option, Some, None, refl, sym, ap, ◌∙◌, subst, inl, inr, arith}
use Rattle.std.specs.Prelude.{IfSome, slice_get}
use Rattle.std.specs.List.{filter_map, sum_by, range_with_len}
use Rattle.std.proofs.lemmas.List.{length-append}
use Rattle.std.proofs.lemmas.List.FromFn.{length-range_with_len}
use Rattle.std.proofs.lemmas.List.Sums.{sum_by-cons}
use Rattle.std.proofs.lemmas.Option.{none-some, same_Some}
use Rattle.mv_base.specs.Memory.{exec_bytes}
use Rattle.x86_insn.specs.Step.{Fetched, Absent, Found, Unknown, fetch_in}
use Rattle.step_laws.specs.laws.Fetching.{is_found, found_pos, found_most, found_len, found_spelled}
use Rattle.elf32_read.specs.declared.run.Run.{Run}
use Rattle.elf32_read.specs.Runs.{code_of, AreApart}
use Rattle.elf32_read.specs.Segments.{AreSpread-apart}
use Rattle.map_table.specs.Pairs.{Ascend}
use Rattle.map_table.specs.laws.Skips.{ascend_weaker}
use Rattle.superset.specs.declared.site.Site.{Site}
use Rattle.superset.specs.Sites.{addresses, run_addresses, site_found, site_at, sites_in}
use Rattle.superset.specs.RunAddresses.{Increase, increase_addresses, address_among}
use Rattle.simulation_laws.specs.laws.Loading.{few_load}
use Rattle.image_layout.specs.Sites.{IsShort, AreShort, IsWhole, AreWhole}

-- what is known of a site at an address: the address, the length, and that its bytes are there
pub record IsSiteAt (code : ℕ → Option ℕ) (a : ℕ) (s : Site) : Type 0 where
  pub here : s.at ≡ a
  pub short : IsShort s
  pub whole : IsWhole code s
  pub starts : (b : ℕ) × (code a ≡ Some b)
  pub fetches : fetch_in code a ≡ Found s.insn s.len

by_fetch : (code : ℕ → Option ℕ) (a : ℕ) (s : Site) (r : Fetched) → fetch_in code a ≡ r → site_found a r ≡ Some s → IsSiteAt code a s
by_fetch code a s Absent e h = absurd (none-some s h)
by_fetch code a s (Found i n) e h =
    let f = is_found code a i n e in
    subst (IsSiteAt code a) (same_Some (record { at = a; len = n; insn = i }) s h)
    (record {
      here = refl;
      short = record { short = found_most code a i n f; load = few_load (exec_bytes code a n) i (found_spelled code a i n f) };
      whole = record { some = found_pos code a i n f; whole = found_len code a i n f };
      starts = f.first;
      fetches = e;
    })
by_fetch code a s Unknown e h = absurd (none-some s h)

pub is_site_at : (code : ℕ → Option ℕ) (a : ℕ) (s : Site) → site_at code a ≡ Some s → IsSiteAt code a s
is_site_at code a s h = by_fetch code a s (fetch_in code a) refl h

-- ---- the list of sites

pub sites_in-listed : (code : ℕ → Option ℕ) (rs : List Run) → sites_in code rs ≡ filter_map (site_at code) (addresses rs)
unfolding sites_in
sites_in-listed code rs = refl

pub site_cases : (o : Option Site) → (o ≡ None) ⊎ ((s : Site) × (o ≡ Some s))
site_cases None = inl refl
site_cases (Some s) = inr (s, refl)

keep_none : (f : ℕ → Option Site) (a : ℕ) (xs : List ℕ) → f a ≡ None → filter_map f (a ∷ xs) ≡ filter_map f xs
keep_none f a xs h = rw h refl

keep_some : (f : ℕ → Option Site) (a : ℕ) (xs : List ℕ) (s : Site) → f a ≡ Some s → filter_map f (a ∷ xs) ≡ s ∷ filter_map f xs
keep_some f a xs s h = rw h refl

-- each is the site at its address
abbrev IsOfCode : (ℕ → Option ℕ) → List Site → Type 0
IsOfCode code ss = (k : ℕ) (s : Site) → slice_get ss k ≡ Some s → site_at code s.at ≡ Some s

only_cons : (code : ℕ → Option ℕ) (a : ℕ) (q : Site) (ss : List Site) → site_at code a ≡ Some q → IsOfCode code ss → IsOfCode code (q ∷ ss)
only_cons code a q ss there rest zero s h =
    let same : q ≡ s = same_Some q s h in
    ap (site_at code) (sym (ap (λ (x : Site). x.at) same) ∙ (is_site_at code a q there).here) ∙ (there ∙ ap Some same)
only_cons code a q ss there rest (suc k) s h = rest k s h

only_listed : (code : ℕ → Option ℕ) (xs : List ℕ) → IsOfCode code (filter_map (site_at code) xs)
only_listed code [] k s e = absurd (none-some s e)
only_listed code (a ∷ xs) k s e =
    elim (site_cases (site_at code a)) [
      | inl n ↦ only_listed code xs k s (sym (ap (λ (l : List Site). slice_get l k) (keep_none (site_at code) a xs n)) ∙ e)
      | inr w ↦ only_cons code a w.0 (filter_map (site_at code) xs) w.1 (only_listed code xs) k s (sym (ap (λ (l : List Site). slice_get l k) (keep_some (site_at code) a xs w.0 w.1)) ∙ e)
    ]

-- and each that there is at one of the addresses is among them
pub record IsListed (ss : List Site) (s : Site) : Type 0 where
  pub index : ℕ
  pub is : slice_get ss index ≡ Some s

all_listed : (code : ℕ → Option ℕ) (xs : List ℕ) (a j : ℕ) (s : Site) → j < length xs → get_or xs j 0 ≡ a → site_at code a ≡ Some s → IsListed (filter_map (site_at code) xs) s
all_listed code [] a j s lt at es = absurd (omega (arith, lt))
all_listed code (b ∷ xs) a zero s lt at es =
    let same = keep_some (site_at code) b xs s (ap (site_at code) at ∙ es) in
    record { index = 0; is = ap (λ (l : List Site). slice_get l 0) same }
all_listed code (b ∷ xs) a (suc j) s lt at es =
    let w = all_listed code xs a j s (omega (arith, lt)) at es in
    elim (site_cases (site_at code b)) [
      | inl n ↦ record { index = w.index; is = ap (λ (l : List Site). slice_get l w.index) (keep_none (site_at code) b xs n) ∙ w.is }
      | inr q ↦ record { index = suc w.index; is = ap (λ (l : List Site). slice_get l (suc w.index)) (keep_some (site_at code) b xs q.0 q.1) ∙ w.is }
    ]

-- their addresses ascend
abbrev pub site_address : Site → ℕ
site_address s = s.at

ascend_listed : (code : ℕ → Option ℕ) (xs : List ℕ) (from : ℕ) → Increase from xs → Ascend from (map site_address (filter_map (site_at code) xs))
ascend_listed code [] from h = tt
ascend_listed code (a ∷ xs) from h =
    elim (site_cases (site_at code a)) [
      | inl e ↦
          subst (λ (t : List Site). Ascend from (map site_address t)) (sym (keep_none (site_at code) a xs e))
          (ascend_weaker from (a + 1) (map site_address (filter_map (site_at code) xs)) (omega (arith, h.0)) (ascend_listed code xs (a + 1) h.1))
      | inr w ↦
          let s = w.0 in
          let facts = is_site_at code a s w.1 in
          let rest = ascend_listed code xs (a + 1) h.1 in
          let next : a + 1 ≡ s.at + 1 = omega (arith, facts.here) in
          subst (λ (t : List Site). Ascend from (map site_address t)) (sym (keep_some (site_at code) a xs s w.1))
          (omega (arith, facts.here, h.0), subst (λ (x : ℕ). Ascend x (map site_address (filter_map (site_at code) xs))) next rest)
    ]

length-filter_map : (f : ℕ → Option Site) (xs : List ℕ) → length (filter_map f xs) ≤ length xs
length-filter_map f [] = omega arith
length-filter_map f (a ∷ xs) =
    elim (site_cases (f a)) [
      | inl e ↦ omega (arith, ap length (keep_none f a xs e), length-filter_map f xs)
      | inr w ↦ omega (arith, ap length (keep_some f a xs w.0 w.1), length-filter_map f xs)
    ]

abbrev pub run_len : Run → ℕ
run_len r = length r.bytes

pub length-addresses : (rs : List Run) → length (addresses rs) ≡ sum_by run_len rs
unfolding addresses
length-addresses [] = refl
length-addresses (r ∷ rs) =
    let len : length (range_with_len r.lo (length r.bytes)) ≡ run_len r = length-range_with_len r.lo (length r.bytes) in
    let more : sum_by run_len (r ∷ rs) ≡ run_len r + sum_by run_len rs = sum_by-cons run_len r rs in
    omega (arith, len, more, length-addresses rs, length-append (run_addresses r) (addresses rs))

-- ---- the sites of runs

-- of the list of the sites of runs
module _ (rs : List Run) (ss : List Site) (are : ss ≡ sites_in (code_of rs) rs) where
  listed : ss ≡ filter_map (site_at (code_of rs)) (addresses rs)
  listed = are ∙ sites_in-listed (code_of rs) rs

  pub site_is : (k : ℕ) (s : Site) → slice_get ss k ≡ Some s → site_at (code_of rs) s.at ≡ Some s
  site_is k s e = only_listed (code_of rs) (addresses rs) k s (sym (ap (λ (l : List Site). slice_get l k) listed) ∙ e)

  pub site_there : (a : ℕ) (s : Site) → site_at (code_of rs) a ≡ Some s → IsListed ss s
  site_there a s e =
      let q = is_site_at (code_of rs) a s e in
      let among = address_among rs a q.starts.0 q.starts.1 in
      subst (λ (l : List Site). IsListed l s) (sym listed) (all_listed (code_of rs) (addresses rs) a among.place s among.below among.at e)

  pub sites_ascend : AreApart 0 rs → Ascend 0 (map site_address ss)
  sites_ascend apart =
      subst (λ (l : List Site). Ascend 0 (map site_address l)) (sym listed)
      (ascend_listed (code_of rs) (addresses rs) 0 (increase_addresses 0 rs (AreSpread-apart 0 rs apart)))

  pub sites_count : length ss ≤ sum_by run_len rs
  sites_count = omega (arith, ap length listed, length-filter_map (site_at (code_of rs)) (addresses rs), length-addresses rs)

  if_some : (P : Site → Type 0) (o : Option Site) → ((s : Site) → o ≡ Some s → P s) → IfSome o P
  if_some P None f = tt
  if_some P (Some s) f = f s refl

  pub are_short : AreShort ss
  are_short k = if_some IsShort (slice_get ss k) (λ s e. (is_site_at (code_of rs) s.at s (site_is k s e)).short)

  pub are_whole : AreWhole (code_of rs) ss
  are_whole k = if_some (IsWhole (code_of rs)) (slice_get ss k) (λ s e. (is_site_at (code_of rs) s.at s (site_is k s e)).whole)
