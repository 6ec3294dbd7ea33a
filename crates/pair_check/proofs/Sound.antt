-- A file in which nothing differs simulates the input.
use Rattle.std.proofs.Common.{◌≡◌, ℕ, ◌≤◌, inl, inr, Bool, true, false, ◌==◌, List, length, Option, Some, None, if◌then◌else◌, refl, sym, ap, ◌∙◌}
use Rattle.std.specs.Prelude.{is_none}
use Rattle.std.specs.Option.{option_map}
use Rattle.std.proofs.lemmas.Bool.{and_from, eqb-true, cond_both}
use Rattle.mv_base.specs.Bytes.{AreBytes}
use Rattle.mv_base.specs.Memory.{within}
use Rattle.mv_base.specs.Table.{run_of, flat_word, paged_word, entry_or}
use Rattle.elf32_read.specs.Fields.{entry_at, segments}
use Rattle.elf32_read.specs.Faults.{load_refusal, limit_fault}
use Rattle.elf32_read.specs.RunCount.{header_count-admitted}
use Rattle.elf32_read.specs.Runs.{runs_of, code_of}
use Rattle.elf32_read.specs.Segments.{code_of-runs_of}
use Rattle.elf32_write.specs.File.{file_of}
use Rattle.elf32_write.specs.Plans.{plan_of}
use Rattle.elf32_write.specs.Frame.{Frame, frame, frame_table, frame_entry, frame_map, counted}
use Rattle.superset.specs.declared.site.Site.{Site}
use Rattle.superset.specs.Sites.{addresses}
use Rattle.superset.specs.RunAddresses.{address_among}
use Rattle.superset.specs.RunBytes.{byte_cases}
use Rattle.simulation_laws.specs.Code.{site_at, code_in}
use Rattle.simulation_laws.specs.Front.{difference}
use Rattle.simulation_laws.specs.Relocated.{fits_ways}
use Rattle.simulation_laws.specs.Standing.{piece_difference, stub_difference}
use Rattle.simulation_laws.specs.Stepping.{SiteLaw}
use Rattle.simulation_laws.specs.Stopping.{Simulates}
use Rattle.simulation_laws.specs.laws.Pieced.{pieced_in}
use Rattle.simulation_laws.specs.laws.Simulating.{simulates}
use Rattle.image_layout.specs.laws.Fitting as fitting
use Rattle.image_layout.specs.laws.SiteFacts.{is_site_at}
use Rattle.pair_check.specs.declared.differs.Part.TheVariants.{File, Entry, Piece}
use Rattle.pair_check.specs.Parts.{differs_at, placed_at, room_differs, runs_differ, file_differs, pairs_differ, stub_differs, site_differs, address_differs, parts_differ, sites_differ}
use Rattle.pair_check.proofs.Framed.{exact, version_two}
use Rattle.pair_check.proofs.NoDifference.{neither, map_none, room_none, RunsAlike, runs_none, outside_runs, Rises, pairs_rise, rises_ascend, rises_fit, at_among}
use Rattle.pair_check.proofs.Carried.{IsJudged, fits, same, output_is}

-- nothing differs in the parts that the file has once
pub record AreAlike (b x : List ℕ) (f : Frame) : Type 0 where
  pub judged : IsJudged b x f
  pub runs : RunsAlike (runs_of b) f.runs
  pub rises : Rises f (code_in b) None (counted f)

file_none : (b x : List ℕ) (f : Frame) → file_differs b x f ≡ None → ((f.version == 1) ≡ false) × (difference 0 (file_of b (plan_of (entry_at b) f)) x ≡ None)
file_none b x f h = go (f.version == 1) refl h
  where
    go : (v : Bool) → (f.version == 1) ≡ v → (if v then differs_at File 0x904 2 1 else placed_at File (difference 0 (file_of b (plan_of (entry_at b) f)) x)) ≡ None → ((f.version == 1) ≡ false) × (difference 0 (file_of b (plan_of (entry_at b) f)) x ≡ None)
    go true e g = absurd (cc g)
    go false e g = (e, map_none _ (difference 0 (file_of b (plan_of (entry_at b) f)) x) g)

pub parts_none : (b x : List ℕ) (f : Frame) → AreBytes b → AreBytes x → length b ≤ 268435456 → load_refusal b ≡ None → limit_fault b ≡ None → frame x ≡ Some f → parts_differ b x f ≡ None → AreAlike b x f
parts_none b x f bytes there small whole admitted framed h =
    let n1 = neither (room_differs f (segments b)) _ h in
    let n2 = neither (runs_differ (runs_of b) f) _ n1.1 in
    let n3 = neither (file_differs b x f) _ n2.1 in
    let n4 = neither (pairs_differ f (code_in b) 0 None (counted f)) (stub_differs f) n3.1 in
    let file = file_none b x f n3.0 in
    record {
      judged = record {
        bytes = bytes;
        bytes_there = there;
        small = small;
        whole = whole;
        few_headers = header_count-admitted b admitted;
        framed = framed;
        version = (version_two f (exact x f framed).version file.0).0;
        room = room_none f (segments b) n1.0;
        file = file.1;
        stub = map_none _ (stub_difference f) n4.1;
      };
      runs = runs_none (runs_of b) f n2.0;
      rises = pairs_rise f (code_in b) 0 None (counted f) n4.0;
    }

-- ---- the sites

-- an address in none of a frame's runs has no entry
entry_outside : (f : Frame) (a : ℕ) → run_of f.runs a ≡ None → frame_entry f a ≡ 0
unfolding frame_entry
entry_outside f a none = cond_both (f.form == 1) (flat_word (frame_table f) f.table.lo a (run_of f.runs a)) (paged_word (frame_table f) f.table.lo a (run_of f.runs a)) (λ n. n ≡ 0)
    (λ _. ap (flat_word (frame_table f) f.table.lo a) none) (λ _. ap (paged_word (frame_table f) f.table.lo a) none)

module _ (b x : List ℕ) (f : Frame) (is : AreAlike b x f) (h : sites_differ (code_in b) (runs_of b) f ≡ None) where
  -- an address with a byte is looked at
  looked_at : (a y : ℕ) → code_of (runs_of b) a ≡ Some y → address_differs f (code_in b) a ≡ None
  looked_at a y e = at_among (address_differs f (code_in b)) (addresses (runs_of b)) a h (address_among (runs_of b) a y e)

  in_code : (a : ℕ) (o : Option ℕ) → code_in b a ≡ o → code_of (runs_of b) a ≡ o
  in_code a o e = sym (code_of-runs_of b is.judged.whole a) ∙ e

  site_piece : (a : ℕ) (s : Site) → address_differs f (code_in b) a ≡ None → site_at (code_in b) a ≡ Some s → piece_difference f (code_in b) s ≡ None
  site_piece a s none e = go (within f.code.lo f.code.len (frame_entry f a)) (sym (ap (site_differs f (code_in b) a) e) ∙ none)
    where
      go : (v : Bool) → (if v then option_map (λ d. record { part = Piece; at = a; kept = d.kept; found = d.found }) (piece_difference f (code_in b) s) else differs_at Entry a f.code.lo (frame_entry f a)) ≡ None → piece_difference f (code_in b) s ≡ None
      go true g = map_none _ (piece_difference f (code_in b) s) g
      go false g = absurd (cc g)

  law_of : (a : ℕ) (s : Site) → site_at (code_in b) a ≡ Some s → SiteLaw b x f s
  law_of a s e =
      let site = is_site_at (code_in b) a s e in
      let none = site_piece a s (looked_at a site.starts.0 (in_code a (Some site.starts.0) site.starts.1)) e in
      pieced_in b x f s (rises_ascend f (code_in b) None (counted f) is.rises)
      (and_from (fits_ways f s) (is_none (piece_difference f (code_in b) s)) (rises_fit f (code_in b) is.rises a s e) (ap is_none none))
      (output_is b x f is.judged)

  -- an address that is no site has no entry
  no_entry : (a : ℕ) → site_at (code_in b) a ≡ None → frame_entry f a ≡ 0
  no_entry a e = elim (byte_cases (code_of (runs_of b) a)) [
    | inl none ↦ outside a (outside_runs (runs_of b) f.runs a is.runs none)
    | inr w ↦ by_test (frame_entry f a == 0) refl (sym (ap (site_differs f (code_in b) a) e) ∙ looked_at a w.0 w.1)
  ]
    where
      by_test : (v : Bool) → (frame_entry f a == 0) ≡ v → (if v then None else differs_at Entry a 0 (frame_entry f a)) ≡ None → frame_entry f a ≡ 0
      by_test true t g = eqb-true (frame_entry f a) 0 t
      by_test false t g = absurd (cc g)

      outside : (c : ℕ) → run_of f.runs c ≡ None → frame_entry f c ≡ 0
      outside c none = entry_outside f c none

  others : (a : ℕ) → site_at (code_in b) a ≡ None → frame_map f a ≡ a
  others a e = ap (λ n. entry_or n a) (no_entry a e)

  pub simulated : Simulates b x
  simulated = simulates b x f (record {
    output = output_is b x f is.judged;
    entry = ap entry_at (same b x f is.judged) ∙ (fitting.wrote b (plan_of (entry_at b) f) (fits b x f is.judged)).entry_is;
    laws = law_of;
    others = others;
  })
