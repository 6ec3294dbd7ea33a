-- What is known of a file's runs, sites, chains and segments.
use Rattle.std.proofs.Common.{◌≡◌, ℕ, zero, suc, ◌+◌, ◌-◌, ◌/◌, ◌^◌, ◌<◌, ◌≤◌, Bool, true, false, cond, List, [], ◌∷◌, length, map, Option, Some, None, refl, sym, ap, subst, arith}
use Rattle.std.specs.Prelude.{slice_get, slice_index}
use Rattle.std.specs.List.{filter, filter_map}
use Rattle.std.proofs.lemmas.Option.{none-some}
use Rattle.mv_base.specs.Memory.{within}
use Rattle.elf32_read.specs.declared.run.Run.{Run}
use Rattle.elf32_read.specs.declared.image.Phdr.{Phdr}
use Rattle.elf32_read.specs.declared.image.Segment.{Segment}
use Rattle.elf32_read.specs.Fields.{headers, maps, segment_of, segments}
use Rattle.elf32_read.specs.Faults.{free_after, load_refusal, limit_fault}
use Rattle.elf32_read.specs.Runs.{runs_of, code_of, AreApart}
use Rattle.elf32_write.specs.Within.{within_parts}
use Rattle.elf32_read.specs.RunCount.{length-runs_of, bytes_len-runs_of, header_count-admitted, code_size-admitted}
use Rattle.elf32_read.specs.Segments.{code_of-runs_of, AreApart-runs_of}
use Rattle.elf32_read.specs.Whole.{Ascends, Ascends-whole}
use Rattle.map_table.specs.Paged.{AreRuns}
use Rattle.sequence_join.specs.laws.Once.{each_once}
use Rattle.sequence_join.specs.laws.Linked.{all_linked}
use Rattle.image_layout.specs.Room.{ArePagesApart}
use Rattle.image_layout.specs.laws.LayFacts.{AreLaid}
use Rattle.mv_rewrite.specs.Sites.{code_in, sites, sites_in}
use Rattle.mv_rewrite.specs.Layout.{chains}
use Rattle.superset.specs.declared.site.Site.{Site}
use Rattle.image_layout.specs.laws.SiteFacts.{is_site_at, site_is}

-- functions that agree are the same
pub same_code : (c d : ℕ → Option ℕ) → ((a : ℕ) → c a ≡ d a) → c ≡ d
same_code c d h = λ i a. h a i

pub are_runs : (b : List ℕ) → load_refusal b ≡ None → limit_fault b ≡ None → AreRuns (runs_of b)
are_runs b whole admitted = record {
  few = omega (arith, length-runs_of b, header_count-admitted b admitted);
  apart = AreApart-runs_of b whole;
  small = omega (arith, bytes_len-runs_of b whole, code_size-admitted b admitted);
}

code_are : (b : List ℕ) → load_refusal b ≡ None → code_in b ≡ code_of (runs_of b)
code_are b whole = same_code (code_in b) (code_of (runs_of b)) (code_of-runs_of b whole)

-- the sites of a file are those of its runs
pub sites_of_runs : (b : List ℕ) → load_refusal b ≡ None → sites b ≡ sites_in (code_of (runs_of b)) (runs_of b)
unfolding sites
sites_of_runs b whole = ap (λ (c : ℕ → Option ℕ). sites_in c (runs_of b)) (code_are b whole)

-- a file's runs, sites and chains can be laid
pub are_laid : (b : List ℕ) → load_refusal b ≡ None → limit_fault b ≡ None → AreLaid (runs_of b) (sites b) (chains b)
are_laid b whole admitted = record {
  runs = are_runs b whole admitted;
  sites = sites_of_runs b whole;
  once = each_once (sites b);
  linked = all_linked (sites b) (λ k. false) 0 (sites b) refl;
}

-- ---- addresses of sites

-- a byte of runs lies below 2^32
run_low : (from : ℕ) (rs : List Run) (a n : ℕ) → AreApart from rs → code_of rs a ≡ Some n → a < 2 ^ 32
run_low from [] a n apart e = absurd (none-some n e)
run_low from (r ∷ rs) a n apart e = go (λ h. run_low (r.lo + length r.bytes + 1) rs a n apart.3 h) (within r.lo (length r.bytes) a) refl e
  where
    go : (code_of rs a ≡ Some n → a < 2 ^ 32) → (t : Bool) → within r.lo (length r.bytes) a ≡ t → (cond t (slice_get r.bytes (a - r.lo)) (code_of rs a)) ≡ Some n → a < 2 ^ 32
    go rest true w h = let q = within_parts r.lo (length r.bytes) a w in omega (arith, q.1, apart.2)
    go rest false w h = rest h

-- so does each site
pub site_low : (b : List ℕ) → AreLaid (runs_of b) (sites b) (chains b) → (k : ℕ) (s : Site) → slice_get (sites b) k ≡ Some s → s.at < 2 ^ 32
site_low b laid k s e =
    let starts = (is_site_at (code_of (runs_of b)) s.at s (site_is (runs_of b) (sites b) laid.sites k s e)).starts in
    run_low 0 (runs_of b) s.at starts.0 laid.runs.apart starts.1

-- the segments of headers whose pages ascend share no page
pages_by : (free : ℕ) (h : Phdr) (hs : List Phdr) (t : Bool) → maps h ≡ t → (maps h ≡ true → free ≤ h.vaddr / 4096) → ArePagesApart (free_after free h) (filter_map segment_of hs) → ArePagesApart free (filter_map segment_of (h ∷ hs))
pages_by free h hs true mapped above rest =
    let low = above mapped in
    let later : ArePagesApart ((h.vaddr + h.memsz + 4095) / 4096) (filter_map segment_of hs) = subst (λ (t : Bool). ArePagesApart (cond t ((h.vaddr + h.memsz + 4095) / 4096) free) (filter_map segment_of hs)) mapped rest in
    rw mapped (low, later)
pages_by free h hs false not_mapped above rest =
    let later : ArePagesApart free (filter_map segment_of hs) = subst (λ (t : Bool). ArePagesApart (cond t ((h.vaddr + h.memsz + 4095) / 4096) free) (filter_map segment_of hs)) not_mapped rest in
    rw not_mapped later

pages_apart : (free : ℕ) (hs : List Phdr) → Ascends free hs → ArePagesApart free (filter_map segment_of hs)
pages_apart free [] ascends = tt
pages_apart free (h ∷ hs) ascends = pages_by free h hs (maps h) refl ascends.0 (pages_apart (free_after free h) hs ascends.1)

whole_apart : (b : List ℕ) → load_refusal b ≡ None → ArePagesApart 0 (segments b)
unfolding segments
whole_apart b whole = pages_apart 0 (headers b) (Ascends-whole b whole)

-- the segments of a file with no fault share no page
pub segments_apart : (b : List ℕ) (ss : List Segment) → load_refusal b ≡ None → ss ≡ segments b → ArePagesApart 0 ss
segments_apart b ss whole e = subst (λ (t : List Segment). ArePagesApart 0 t) (sym e) (whole_apart b whole)
