-- The file of an input is what is written for it.
use Rattle.std.proofs.Common.{◌≡◌, ℕ, ◌+◌, ◌<◌, true, false, List, length, Option, Some, None, refl, sym, ap, ◌∙◌, subst, arith}
use mathlib.Core.Path.{fun_ext}
use Rattle.std.specs.Prelude.{slice_index}
use Rattle.mv_base.specs.Bytes.{AreBytes}
use Rattle.mv_base.specs.Memory.{within}
use Rattle.elf32_read.specs.Load.{load}
use Rattle.elf32_write.specs.Format.{up}
use Rattle.image_layout.specs.Rules.{Rules}
use Rattle.elf32_write.specs.File.{code_place}
use Rattle.elf32_write.specs.Frame.{frame_code, frame_table, frame_entry, frame_map, is_added, is_private}
use Rattle.elf32_read.specs.Runs.{runs_of, code_of}
use Rattle.map_table.specs.Pairs.{entry_in}
use Rattle.superset.specs.declared.site.Site.{Site}
use Rattle.image_layout.specs.Layout.{plan}
use Rattle.mv_rewrite.specs.Sites.{site_at, code_in, sites}
use Rattle.mv_rewrite.specs.Layout.{chains, code_len, table_len, table_from, moved, pairs_at, runs_at, anchors_at, code, plan_at}
use Rattle.mv_rewrite.proofs.LayoutFacts.{same_code}
use Rattle.simulation_laws.specs.Relocated.{anchors_of}
use Rattle.mv_rewrite.specs.Output.{output_at}
use Rattle.mv_rewrite.specs.OutputFile.{IsWrittenFor}
use Rattle.mv_rewrite.proofs.PlacedPlan.{entries, none, map_is, inside, differ}
use Rattle.image_layout.specs.laws.NewCells.{within_is}
use Rattle.image_layout.specs.laws.Fitting.{wrote}
use Rattle.image_layout.specs.laws.Fitting as fitting
use Rattle.mv_rewrite.proofs.Planned.{length-code, length-table_of, size_is, IsInput, fits}
use Rattle.elf32_write.specs.ReadBack.{taken}
use Rattle.mv_rewrite.proofs.Recorded.{frame_is, table_there, counted_there, input_there}
use Rattle.mv_rewrite.proofs.Relocating.{private_within, in_block, table_words, is_placed, relocated}

-- ---- the file

module _ (b : List ℕ) (rules : Rules) (base : ℕ) (is : IsInput b rules base) where
  abbrev x : List ℕ
  x = output_at b rules base

  -- the parts of the file
  pub code_there : frame_code (frame_is b rules base) ≡ (plan_at b rules base).code
  code_there = taken x (plan_at b rules base).code (code_place (length b)) (code_len b rules) (length-code b rules base is.laid) (wrote b (plan_at b rules base) (fits b rules base is)).code_stands

  pub maps_so : (a : ℕ) → frame_map (frame_is b rules base) a ≡ moved (pairs_at b rules base) a
  maps_so a = map_is b rules base x (frame_is b rules base) (is_placed b rules base is) a

  code_is : (plan_at b rules base).code ≡ code rules (anchors_of (frame_is b rules base)) (frame_map (frame_is b rules base)) (code_in b) (runs_at b rules base) (sites b) (chains b)
  unfolding plan
  code_is =
      ap (λ (m : ℕ → ℕ). code rules (anchors_at b rules base) m (code_of (runs_of b)) (runs_at b rules base) (sites b) (chains b)) (sym (fun_ext maps_so))
      ∙ ap (λ (c : ℕ → Option ℕ). code rules (anchors_at b rules base) (frame_map (frame_is b rules base)) c (runs_at b rules base) (sites b) (chains b)) (sym (same_code (code_in b) (code_of (runs_of b)) is.code))

  -- the frame's entries are the pairs'
  entries_so : (a : ℕ) → frame_entry (frame_is b rules base) a ≡ entry_in (pairs_at b rules base) a
  entries_so = entries b rules base x (frame_is b rules base) (is_placed b rules base is)

  entry_inside : (a : ℕ) (s : Site) → site_at (code_in b) a ≡ Some s → (0 < frame_entry (frame_is b rules base) a) × (within base (code_len b rules) (frame_entry (frame_is b rules base) a) ≡ true)
  entry_inside a s e =
      let q = inside b rules base x (frame_is b rules base) (is_placed b rules base is) a s e in
      subst (λ n. (0 < n) × (within base (code_len b rules) n ≡ true)) (sym (entries_so a)) (q.0, within_is base (code_len b rules) (entry_in (pairs_at b rules base) a) q.1 q.2)

  code_cells : (k : ℕ) → k < code_len b rules → load x (base + k) ≡ Some (record { byte = slice_index (frame_code (frame_is b rules base)) k; write = false; exec = true })
  code_cells k lt =
      (is_placed b rules base is).cells k (omega (arith, lt, length-code b rules base is.laid))
      ∙ ap (λ (l : List ℕ). Some (record { byte = slice_index l k; write = false; exec = true })) (sym code_there)

  table_cells : (k : ℕ) → k < table_len b rules → load x (table_from b rules base + k) ≡ Some (record { byte = slice_index (frame_table (frame_is b rules base)) k; write = false; exec = false })
  table_cells k lt =
      table_words b rules base is k (omega (arith, lt, length-table_of b rules base))
      ∙ ap (λ (l : List ℕ). Some (record { byte = slice_index l k; write = false; exec = false })) (sym (table_there b rules base is))

  private_cells : (a : ℕ) → is_private (frame_is b rules base) a ≡ true → load x a ≡ Some (record { byte = 0; write = true; exec = false })
  private_cells a e = fitting.private_cells b (plan_at b rules base) (fits b rules base is) a (private_within b rules base is a true e)

  -- nothing else is mapped in the block
  nothing : (a : ℕ) → is_added (frame_is b rules base) a ≡ true → within base (code_len b rules) a ≡ false → within (table_from b rules base) (table_len b rules) a ≡ false → is_private (frame_is b rules base) a ≡ false → load x a ≡ None
  unfolding plan
  nothing a e c t p =
      let code = length-code b rules base is.laid in
      fitting.nothing b (plan_at b rules base) (fits b rules base is) a (in_block b rules base is a e) (ap (λ n. within base n a) code ∙ c)
      ((λ i. within (base + up (code i)) (length-table_of b rules base i) a) ∙ t) (private_within b rules base is a false p)

  pub written_for : AreBytes x → IsWrittenFor b rules x (frame_is b rules base)
  written_for there =
      let r = relocated b rules base is there in
      record {
        admitted = r.output.admitted;
        framed = r.output.framed;
        input_is = input_there b rules base is;
        base = is.base_is;
        size_is = sym (size_is b rules base);
        counted_are = counted_there b rules base is;
        ascends = r.ascends;
        version = refl;
        rule_is = refl;
        edge_rule_is = refl;
        form = refl;
        runs = refl;
        code_is = code_there ∙ code_is;
        entries = entries_so;
        inside = entry_inside;
        differ = λ a c s q e g same. differ b rules base x (frame_is b rules base) (is_placed b rules base is) a c s q e g (sym (entries_so a) ∙ (same ∙ entries_so c));
        pieces = r.pieces;
        none = none b rules base x (frame_is b rules base) (is_placed b rules base is);
        maps = maps_so;
        entry = r.entry;
        outside = r.output.outside;
        free = r.output.free;
        code = code_cells;
        table = table_cells;
        private = private_cells;
        nothing = nothing;
      }
