-- Where a frame's code has a site's piece and what leads on behind it, the site has its law.
use Rattle.std.proofs.Common.{◌≡◌, ℕ, ◌+◌, ◌-◌, ◌<◌, ◌≤◌, ◌⊎◌, inl, inr, Bool, true, false, List, [], ◌∷◌, ◌++◌, length, drop, get_or, Option, Some, None, nat_le, nat_lt, cond, ◌==◌, ◌&&◌, take, slice_get, if◌then◌else◌, refl, sym, ap, ◌∙◌, subst, arith}
use Rattle.std.specs.Prelude.{slice_index, is_none, not}
use Rattle.std.proofs.lemmas.Bool.{and_parts, and_from, leb-true, ltb-true, le-leb, lt-ltb, eqb-true}
use Rattle.std.proofs.lemmas.List.{length-drop, length-take, get_or-drop}
use Rattle.std.proofs.lemmas.Option.{slice_get_past, none-some, same_Some}
use Rattle.mv_base.specs.Memory.{exec_byte, exec_bytes, is_writable, within}
use Rattle.x86_insn.specs.declared.insn.Flow.{Flow}
use Rattle.x86_insn.specs.declared.insn.Flow.TheVariants as flow
use Rattle.x86_insn.specs.Flow.{flow_of, falls}
use Rattle.x86_insn.specs.Step.{Fetched, Absent, Found, Unknown, fetch_in}
use Rattle.step_laws.specs.Jumps.{jump_bytes}
use Rattle.step_laws.specs.laws.Fetching.{IsFound, is_found, found_pos, found_len}
use Rattle.elf32_read.specs.declared.run.Run.{Run}
use Rattle.elf32_read.specs.Load.{load}
use Rattle.elf32_read.specs.Runs.{code_of}
use Rattle.elf32_write.specs.Format.{private_len}
use Rattle.elf32_write.specs.Frame.{Frame, frame, frame_code, frame_entry, frame_map, is_added, is_private, counted, AscendPairs}
use Rattle.superset.specs.declared.site.Site.{Site}
use Rattle.superset.specs.Sites.{site_found}
use Rattle.superset.specs.RunBytes.{exec_same, exec_run, run_byte, outside_below}
use Rattle.simulation_laws.specs.declared.anchors.Anchors.{Anchors}
use Rattle.simulation_laws.specs.declared.anchors.Ways.{Ways}
use Rattle.simulation_laws.specs.Code.{site_at, code_in}
use Rattle.simulation_laws.specs.Front.{difference}
use Rattle.simulation_laws.specs.Pieces.{successor, piece_of, piece_with}
use Rattle.simulation_laws.specs.Relocated.{StandAt, IsOutput, anchors_of, counter_there, fits_ways, piece_place, piece_there, ways_of}
use Rattle.simulation_laws.specs.Standing.{code_from, is_entry, way_there, site_code, piece_difference, has_piece, HasRun}
use Rattle.simulation_laws.specs.Stepping.{SiteLaw}
use Rattle.simulation_laws.specs.laws.CountedSite.{site_law}
use Rattle.simulation_laws.specs.laws.Parts.{front_of, back_of}
use Rattle.simulation_laws.specs.laws.Fronts.{none_by, none_fits, none_same}
use Rattle.simulation_laws.specs.laws.Ruled.{ruled, code_fits}

-- ---- what the code has stands there

-- a byte of the code from an address on is one of the code
pub record IsOfCode (f : Frame) (at k : ℕ) : Type 0 where
  pub low : f.code.lo ≤ at
  pub below : at + k < f.code.lo + length (frame_code f)
  pub byte : get_or (code_from f at) k 0 ≡ get_or (frame_code f) (at - f.code.lo + k) 0

pub of_code : (f : Frame) (at k : ℕ) → k < length (code_from f at) → IsOfCode f at k
of_code f at k lt = go (nat_le f.code.lo at) refl
  where
    go : (v : Bool) → nat_le f.code.lo at ≡ v → IsOfCode f at k
    go true e =
        let low = leb-true f.code.lo at e in
        let from : code_from f at ≡ drop (at - f.code.lo) (frame_code f) = ap (λ w. if w then drop (at - f.code.lo) (frame_code f) else []) e in
        record {
          low = low;
          below = omega (arith, lt, low, ap length from, length-drop (at - f.code.lo) (frame_code f));
          byte = ap (λ t. get_or t k 0) from ∙ get_or-drop (at - f.code.lo) (frame_code f) k 0;
        }
    go false e =
        let from : code_from f at ≡ [] = ap (λ w. if w then drop (at - f.code.lo) (frame_code f) else []) e in
        absurd (omega (arith, lt, ap length from))

-- a file's memory holds the frame's code, and nothing of the block but the private area may be written
pub record HoldsCode (x : List ℕ) (f : Frame) : Type 0 where
  pub framed : frame x ≡ Some f
  pub code : (k : ℕ) → k < length (frame_code f) → exec_byte (load x) (f.code.lo + k) ≡ Some (slice_index (frame_code f) k)
  pub fixed : (a : ℕ) → is_added f a ≡ true → is_private f a ≡ false → is_writable (load x) a ≡ false

pub output_holds : (b x : List ℕ) (f : Frame) → IsOutput b x f → HoldsCode x f
output_holds b x f rel = record { framed = rel.framed; code = rel.code; fixed = rel.fixed }

pub stands_by : (x : List ℕ) (f : Frame) (at k : ℕ) (bytes : List ℕ) → HoldsCode x f → difference k bytes (code_from f at) ≡ None → StandAt x f at bytes
stands_by x f at k bytes rel h =
    let is = ruled x f rel.framed in
    let fits = code_fits f in
    let there : (j : ℕ) → j < length bytes → IsOfCode f at j = λ j lt. of_code f at j (omega (arith, lt, none_fits k bytes (code_from f at) h)) in
    let below : (j : ℕ) → j < length bytes → at + j < f.code.lo + f.code.len = λ j lt. omega (arith, (there j lt).below, fits) in
    let inside : (j : ℕ) → j < length bytes → is_added f (at + j) ≡ true =
    λ j lt. and_from (nat_le f.added.lo (at + j)) (nat_lt (at + j) (f.added.lo + f.added.len)) (le-leb f.added.lo (at + j) (omega (arith, is.added, (there j lt).low)))
    (lt-ltb (at + j) (f.added.lo + f.added.len) (omega (arith, below j lt, is.code, is.table, is.fits))) in
    let outside : (j : ℕ) → j < length bytes → is_private f (at + j) ≡ false = λ j lt. outside_below f.private (private_len f.counters) (at + j) (omega (arith, below j lt, is.code, is.table)) in
    let place : (j : ℕ) → j < length bytes → f.code.lo + (at - f.code.lo + j) ≡ at + j = λ j lt. omega (arith, (there j lt).low) in
    record {
      byte = λ j lt.
          ap (exec_byte (load x)) (sym (place j lt))
          ∙ (rel.code (at - f.code.lo + j) (omega (arith, (there j lt).low, (there j lt).below))
          ∙ ap Some (sym (there j lt).byte ∙ none_same k bytes (code_from f at) j h lt));
      fixed = λ j lt. rel.fixed (at + j) (inside j lt) (outside j lt);
      added = inside;
      public = outside;
    }

-- ---- the site's own bytes are the input's

in_run : (r : Run) (a n : ℕ) → code_of (r ∷ []) a ≡ Some n → (r.lo ≤ a) × (a < r.lo + length r.bytes)
in_run r a n h = go (within r.lo (length r.bytes) a) refl
  where
    go : (v : Bool) → within r.lo (length r.bytes) a ≡ v → (r.lo ≤ a) × (a < r.lo + length r.bytes)
    go true e =
        let p = and_parts (nat_le r.lo a) (nat_lt a (r.lo + length r.bytes)) e in
        (leb-true r.lo a p.0, ltb-true a (r.lo + length r.bytes) p.1)
    go false e = absurd (none-some n (sym (ap (λ t. cond t (slice_get r.bytes (a - r.lo)) None) e) ∙ h))

pub record IsSiteOf (r : Run) (s : Site) : Type 0 where
  pub low : r.lo ≤ s.at
  pub below : s.at < r.lo + length r.bytes
  pub there : IsFound (code_of (r ∷ [])) s.at s.insn s.len
  pub room : s.at + s.len ≤ r.lo + length r.bytes
  pub own : take s.len (drop (s.at - r.lo) r.bytes) ≡ exec_bytes (code_of (r ∷ [])) s.at s.len

by_fetch : (code : ℕ → Option ℕ) (a : ℕ) (s : Site) (q : Fetched) → fetch_in code a ≡ q → site_found a q ≡ Some s → IsFound code a s.insn s.len
by_fetch code a s Absent e h = absurd (none-some s h)
by_fetch code a s (Found i n) e h =
    subst (λ (t : Site). IsFound code a t.insn t.len) (same_Some (record { at = a; len = n; insn = i }) s h) (is_found code a i n e)
by_fetch code a s Unknown e h = absurd (none-some s h)

pub site_of_run : (r : Run) (s : Site) → site_at (code_of (r ∷ [])) s.at ≡ Some s → IsSiteOf r s
site_of_run r s h =
    let code = code_of (r ∷ []) in
    let f = by_fetch code s.at s (fetch_in code s.at) refl h in
    let w = in_run r s.at f.first.0 f.first.1 in
    let back : r.lo + (s.at - r.lo) ≡ s.at = omega (arith, w.0) in
    let own : take s.len (drop (s.at - r.lo) r.bytes) ≡ exec_bytes code s.at s.len = sym (ap (λ a. exec_bytes code a s.len) (sym back) ∙ exec_run r s.len (s.at - r.lo)) in
    let long : length (exec_bytes code s.at s.len) ≡ s.len = found_len code s.at s.insn s.len f in
    record {
      low = w.0;
      below = w.1;
      there = f;
      room = omega (arith, ap length own, long, length-take s.len (drop (s.at - r.lo) r.bytes), length-drop (s.at - r.lo) r.bytes, found_pos code s.at s.insn s.len f, w.0);
      own = own;
    }

own_same : (b : List ℕ) (r : Run) (s : Site) → IsSiteOf r s → HasRun b r → exec_bytes (code_in b) s.at s.len ≡ exec_bytes (code_of (r ∷ [])) s.at s.len
own_same b r s is has =
    let end : code_of (r ∷ []) (r.lo + length r.bytes) ≡ None = run_byte r (length r.bytes) ∙ slice_get_past r.bytes (length r.bytes) (omega arith) in
    exec_same (code_in b) (code_of (r ∷ [])) s.len s.at (r.lo + length r.bytes) (omega (arith, is.below)) end (λ a low high. has a (omega (arith, is.low, low)) high)

piece_same : (fl : Flow) (an : Anchors) (move : ℕ → ℕ) (code other : ℕ → Option ℕ) (here : ℕ) (s : Site) → exec_bytes code s.at s.len ≡ exec_bytes other s.at s.len → piece_of fl an move code here s ≡ piece_of fl an move other here s
piece_same flow.Plain an move code other here s e = e
piece_same flow.System an move code other here s e = e
piece_same flow.Trap an move code other here s e = e
piece_same flow.Jump an move code other here s e = refl
piece_same flow.Branch an move code other here s e = refl
piece_same flow.Count an move code other here s e = refl
piece_same flow.Call an move code other here s e = refl
piece_same flow.JumpVia an move code other here s e = refl
piece_same flow.CallVia an move code other here s e = refl
piece_same flow.Return an move code other here s e = refl

with_same : (an : Anchors) (move : ℕ → ℕ) (code other : ℕ → Option ℕ) (ways : Option Ways) (here : ℕ) (s : Site) → exec_bytes code s.at s.len ≡ exec_bytes other s.at s.len → piece_with an move code ways here s ≡ piece_with an move other ways here s
with_same an move code other None here s e = piece_same (flow_of s.insn) an move code other here s e
with_same an move code other (Some ways) here s e = refl

-- ---- the law

-- what leads on stands: the successor's entry is there, or a join
way_by : (x : List ℕ) (f : Frame) (here : ℕ) (s : Site) → StandAt x f here (way_there f here s) → falls (flow_of s.insn) ≡ true → (frame_map f (successor s) ≡ here) ⊎ StandAt x f here (jump_bytes here (frame_map f (successor s)))
way_by x f here s stands on = go (is_entry f (successor s) here) refl
  where
    join : List ℕ
    join = jump_bytes here (frame_map f (successor s))

    go : (v : Bool) → is_entry f (successor s) here ≡ v → (frame_map f (successor s) ≡ here) ⊎ StandAt x f here join
    go true e =
        let p = and_parts (not (frame_entry f (successor s) == 0)) (frame_entry f (successor s) == here) e in
        inl (mapped (frame_entry f (successor s) == 0) p.0 ∙ eqb-true (frame_entry f (successor s)) here p.1)
      where
        mapped : (v : Bool) → not v ≡ true → (if v then successor s else frame_entry f (successor s)) ≡ frame_entry f (successor s)
        mapped true h = absurd (cc h)
        mapped false h = refl
    go false e =
        inr (subst (StandAt x f here)
        (ap (λ v. if v && not (is_entry f (successor s) here) then join else []) on ∙ ap (λ v. if true && not v then join else []) e) stands)

-- over the input's own code
pub pieced_in : (b x : List ℕ) (f : Frame) (s : Site) → AscendPairs (counted f) → has_piece f (code_in b) s ≡ true → IsOutput b x f → SiteLaw b x f s
pieced_in b x f s ascends h rel =
    let w = and_parts (fits_ways f s) (is_none (piece_difference f (code_in b) s)) h in
    let piece = piece_there b f s in
    let way = way_there f (piece_place f s + length piece) s in
    let none = none_by (piece_difference f (code_in b) s) w.1 in
    let whole = stands_by x f (frame_map f s.at) 0 (site_code f (code_in b) s) (output_holds b x f rel) none in
    let rest = back_of x f (frame_map f s.at) (counter_there f s) (piece ++ way) whole in
    site_law b x f s rel ascends (record {
      ways = w.0;
      counts = front_of x f (frame_map f s.at) (counter_there f s) (piece ++ way) whole;
      stands = front_of x f (piece_place f s) piece way rest;
      leads = λ on. way_by x f (piece_place f s + length piece) s (back_of x f (piece_place f s) piece way rest) on;
    })

-- a site's code is the same over codes that have the same bytes of its own
pub difference_same : (f : Frame) (code other : ℕ → Option ℕ) (s : Site) → exec_bytes code s.at s.len ≡ exec_bytes other s.at s.len → piece_difference f code s ≡ piece_difference f other s
difference_same f code other s same =
    ap (λ p. difference 0 (counter_there f s ++ (p ++ way_there f (piece_place f s + length p) s)) (code_from f (frame_map f s.at)))
    (with_same (anchors_of f) (frame_map f) code other (ways_of f s.at) (piece_place f s) s same)

pub pieced : (b x : List ℕ) (f : Frame) (r : Run) (s : Site) → site_at (code_of (r ∷ [])) s.at ≡ Some s → AscendPairs (counted f) → has_piece f (code_of (r ∷ [])) s ≡ true → IsOutput b x f → HasRun b r → SiteLaw b x f s
pieced b x f r s site ascends h rel has =
    let same = difference_same f (code_in b) (code_of (r ∷ [])) s (own_same b r s (site_of_run r s site) has) in
    pieced_in b x f s ascends (ap (λ d. fits_ways f s && is_none d) same ∙ h) rel
