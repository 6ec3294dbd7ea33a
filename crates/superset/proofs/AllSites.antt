-- The sites among the addresses of runs are all sites of their bytes, ascending.
use Rattle.std.proofs.Common.{◌≡◌, ℕ, zero, suc, ◌+◌, ◌<◌, ◌≤◌, List, [], ◌∷◌, length, get_or, Option, Some, None, Contains, refl, sym, ap, ◌∙◌, arith}
use Rattle.std.specs.List.{AllByRecursion, filter_map, cons_option}
use Rattle.std.proofs.lemmas.Option.{none-some, same_Some}
use Rattle.mv_base.specs.Memory.{exec_bytes}
use Rattle.x86_insn.specs.Spelling.{decoded}
use Rattle.x86_insn.specs.Step.{Fetched, Absent, Found, Unknown, fetched, fetch_in}
use Rattle.elf32_read.specs.declared.run.Run.{Run}
use Rattle.elf32_read.specs.Runs.{code_of, AreSpread}
use Rattle.superset.specs.declared.site.Site.{Site}
use Rattle.superset.specs.Sites.{site_found, site_at, addresses, sites_in, Ascend, AreSites}
use Rattle.superset.specs.RunAddresses.{Increase, increase_addresses, address_among}

-- a site is at its address, where there is a byte
found_at : (a : ℕ) (s : Site) (r : Fetched) → site_found a r ≡ Some s → s.at ≡ a
found_at a s Absent h = absurd (none-some s h)
found_at a s (Found i n) h = sym (ap (λ (t : Site). t.at) (same_Some (record { at = a; len = n; insn = i }) s h))
found_at a s Unknown h = absurd (none-some s h)

starts : (code : ℕ → Option ℕ) (a : ℕ) (s : Site) → site_at code a ≡ Some s → (b : ℕ) × (code a ≡ Some b)
unfolding fetch_in
starts code a s h = go (code a) refl h
  where
    go : (o : Option ℕ) → code a ≡ o → site_found a (fetched o (decoded (exec_bytes code a 15))) ≡ Some s → (b : ℕ) × (code a ≡ Some b)
    go None e g = absurd (none-some s g)
    go (Some b) e g = (b, e)

contains_later : (o : Option Site) (ss : List Site) (s : Site) → Contains ss s → Contains (cons_option o ss) s
contains_later None ss s h = h
contains_later (Some t) ss s h = (suc h.0, omega (arith, h.1), h.2)

contains_first : (o : Option Site) (ss : List Site) (s : Site) → o ≡ Some s → Contains (cons_option o ss) s
contains_first None ss s e = absurd (none-some s e)
contains_first (Some t) ss s e = (0, omega arith, same_Some t s e)

module _ (code : ℕ → Option ℕ) where
  has_all : (xs : List ℕ) (j a : ℕ) (s : Site) → j < length xs → get_or xs j 0 ≡ a → site_at code a ≡ Some s → Contains (filter_map (site_at code) xs) s
  has_all [] j a s lt at e = absurd (omega arith)
  has_all (x ∷ xs) zero a s lt at e = contains_first (site_at code x) (filter_map (site_at code) xs) s (ap (site_at code) at ∙ e)
  has_all (x ∷ xs) (suc j) a s lt at e = contains_later (site_at code x) (filter_map (site_at code) xs) s (has_all xs j a s (omega arith) at e)

  only_step : (x : ℕ) (o : Option Site) (ss : List Site) → site_at code x ≡ o → AllByRecursion (λ s. site_at code s.at ≡ Some s) ss → AllByRecursion (λ s. site_at code s.at ≡ Some s) (cons_option o ss)
  only_step x None ss e h = h
  only_step x (Some s) ss e h = (ap (site_at code) (found_at x s (fetch_in code x) e) ∙ e, h)

  has_only : (xs : List ℕ) → AllByRecursion (λ s. site_at code s.at ≡ Some s) (filter_map (site_at code) xs)
  has_only [] = tt
  has_only (x ∷ xs) = only_step x (site_at code x) (filter_map (site_at code) xs) refl (has_only xs)

  weaker : (low from : ℕ) (ss : List Site) → low ≤ from → Ascend from ss → Ascend low ss
  weaker low from [] l h = tt
  weaker low from (s ∷ ss) l h = (omega (arith, h.0), h.1)

  ascend_step : (from x : ℕ) (o : Option Site) (ss : List Site) → from ≤ x → site_at code x ≡ o → Ascend (x + 1) ss → Ascend from (cons_option o ss)
  ascend_step from x None ss low e h = weaker from (x + 1) ss (omega arith) h
  ascend_step from x (Some s) ss low e h =
      let at = found_at x s (fetch_in code x) e in
      (omega (arith, at), weaker (s.at + 1) (x + 1) ss (omega (arith, at)) h)

  ascends : (xs : List ℕ) (from : ℕ) → Increase from xs → Ascend from (filter_map (site_at code) xs)
  ascends [] from h = tt
  ascends (x ∷ xs) from h = ascend_step from x (site_at code x) (filter_map (site_at code) xs) h.0 refl (ascends xs (x + 1) h.1)

pub are_sites : (rs : List Run) → AreSpread 0 rs → AreSites (code_of rs) (sites_in (code_of rs) rs)
unfolding sites_in
are_sites rs spread = record {
  all = λ a s e.
      let byte = starts (code_of rs) a s e in
      let among = address_among rs a byte.0 byte.1 in
      has_all (code_of rs) (addresses rs) among.place a s among.below among.at e;
  only = has_only (code_of rs) (addresses rs);
  ascend = ascends (code_of rs) (addresses rs) 0 (increase_addresses 0 rs spread);
}
