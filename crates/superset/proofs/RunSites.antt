-- The sites of runs are those of each run by itself.
use Rattle.std.proofs.Common.{◌≡◌, ℕ, zero, suc, ◌+◌, ◌-◌, ◌<◌, ◌≤◌, List, [], ◌∷◌, ◌++◌, length, min, take, drop, get_or, Option, Some, None, refl, sym, ap, ◌∙◌, subst, arith}
use Rattle.std.specs.Prelude.{option_to_list}
use Rattle.std.specs.List.{filter_map, flat_map, range_with_len, cons_option}
use Rattle.std.proofs.lemmas.List.{append-nil, append_assoc, take_min, take_rest}
use Rattle.std.proofs.lemmas.List.Elements.{filter_map-append}
use Rattle.std.proofs.lemmas.Option.{slice_get-get_or, slice_get_past}
use Rattle.mv_base.specs.Memory.{exec_bytes}
use Rattle.x86_insn.specs.declared.insn.Insn.{Insn}
use Rattle.x86_insn.specs.Spelling.{decoded}
use Rattle.x86_insn.specs.Step.{fetch_in, fetched}
use Rattle.elf32_read.specs.declared.run.Run.{Run}
use Rattle.elf32_read.specs.Runs.{code_of, AreSpread}
use Rattle.superset.specs.declared.site.Site.{Site}
use Rattle.superset.specs.Sites.{site_at, site_found, run_addresses, addresses, sites_in}
use Rattle.superset.specs.RunBytes.{code_first, code_later, exec_run, range_more, run_byte, site_same}

site_by : (code : ℕ → Option ℕ) (a b : ℕ) (d : Option (Insn × ℕ)) → code a ≡ Some b → decoded (exec_bytes code a 15) ≡ d → site_at code a ≡ site_found a (fetched (Some b) d)
unfolding fetch_in
site_by code a b d h e = rw (h, e)

-- the site at an offset of a run, by what the bytes from there on decode to
pub site_of_run : (r : Run) (k : ℕ) (d : Option (Insn × ℕ)) → k < length r.bytes → decoded (take 15 (drop k r.bytes)) ≡ d → site_at (code_of (r ∷ [])) (r.lo + k) ≡ site_found (r.lo + k) (fetched (Some (get_or r.bytes k 0)) d)
site_of_run r k d l e =
    site_by (code_of (r ∷ [])) (r.lo + k) (get_or r.bytes k 0) d (run_byte r k ∙ slice_get-get_or r.bytes k 0 l) (ap decoded (exec_run r 15 k) ∙ e)

filter_same : (f g : ℕ → Option Site) (n lo : ℕ) → ((k : ℕ) → k < n → f (lo + k) ≡ g (lo + k)) → filter_map f (range_with_len lo n) ≡ filter_map g (range_with_len lo n)
filter_same f g zero lo same = refl
filter_same f g (suc n) lo same =
    let first : f lo ≡ g lo = subst (λ (a : ℕ). f a ≡ g a) (omega arith) (same 0 (omega arith)) in
    let rest = filter_same f g n (lo + 1) (λ k l. subst (λ (a : ℕ). f a ≡ g a) (omega arith) (same (k + 1) (omega arith))) in
    rw (first, rest) refl

-- the sites of a run by itself
abbrev pub run_sites : Run → List Site
run_sites r = sites_in (code_of (r ∷ [])) (r ∷ [])

pub run_sites_are : (r : Run) → run_sites r ≡ filter_map (site_at (code_of (r ∷ []))) (run_addresses r)
unfolding sites_in addresses
run_sites_are r = ap (filter_map (site_at (code_of (r ∷ [])))) (append-nil (run_addresses r))

split : (code : ℕ → Option ℕ) (from : ℕ) (rs : List Run) → AreSpread from rs → ((b : ℕ) → from ≤ b → code b ≡ code_of rs b) → filter_map (site_at code) (flat_map run_addresses rs) ≡ flat_map run_sites rs
split code from [] spread same = refl
split code from (r ∷ rs) spread same =
    let len = length r.bytes in
    let end : code_of (r ∷ []) (r.lo + len) ≡ None = run_byte r len ∙ slice_get_past r.bytes len (omega arith) in
    let first = filter_same (site_at code) (site_at (code_of (r ∷ []))) len r.lo (λ k l.
    site_same code (code_of (r ∷ [])) (r.lo + k) (r.lo + len) (omega arith) end (λ b low high.
    same b (omega (arith, spread.0)) ∙ code_first from r rs spread b high)) in
    let rest = split code (r.lo + len + 1) rs spread.2 (λ b low. same b (omega (arith, spread.0)) ∙ code_later r rs b (omega arith)) in
    filter_map-append (site_at code) (run_addresses r) (flat_map run_addresses rs)
    ∙ ap (λ (t : List Site). t ++ filter_map (site_at code) (flat_map run_addresses rs)) (first ∙ sym (run_sites_are r))
    ∙ ap (λ (t : List Site). run_sites r ++ t) rest

-- the sites of runs are those of each run, one after the other
pub sites_split : (rs : List Run) → AreSpread 0 rs → sites_in (code_of rs) rs ≡ flat_map run_sites rs
unfolding sites_in addresses
sites_split rs spread = split (code_of rs) 0 rs spread (λ b l. refl)

-- at most 15 bytes of a tail of a slice
pub front_of_tail : (ys xs : List ℕ) (k n : ℕ) → ys ≡ xs → n ≡ min 15 (length (take (length ys - k) (drop k ys))) → take n (take (length ys - k) (drop k ys)) ≡ take 15 (drop k xs)
front_of_tail ys xs k n e h =
    let tail = take (length ys - k) (drop k ys) in
    ap (λ (m : ℕ). take m tail) h ∙ take_min 15 tail ∙ ap (take 15) (take_rest ys k ∙ ap (drop k) e)

-- the sites of one more address
filter_more : (f : ℕ → Option Site) (lo n : ℕ) → filter_map f (range_with_len lo (n + 1)) ≡ filter_map f (range_with_len lo n) ++ filter_map f ((lo + n) ∷ [])
filter_more f lo n = ap (filter_map f) (range_more n lo) ∙ filter_map-append f (range_with_len lo n) ((lo + n) ∷ [])

site_alone : (o : Option Site) → cons_option o [] ≡ option_to_list o
site_alone None = refl
site_alone (Some s) = refl

pub site_more : (f : ℕ → Option Site) (lo n : ℕ) (new now old : List Site) → now ≡ old ++ filter_map f (range_with_len lo n) → new ≡ now ++ option_to_list (f (lo + n)) → new ≡ old ++ filter_map f (range_with_len lo (n + 1))
site_more f lo n new now old h p =
    p ∙ ap (λ (t : List Site). t ++ option_to_list (f (lo + n))) h ∙ append_assoc old (filter_map f (range_with_len lo n)) (option_to_list (f (lo + n)))
    ∙ ap (λ (t : List Site). old ++ (filter_map f (range_with_len lo n) ++ t)) (sym (site_alone (f (lo + n))))
    ∙ ap (λ (t : List Site). old ++ t) (sym (filter_more f lo n))
