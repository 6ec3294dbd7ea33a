-- An output is relocated.
use Rattle.std.proofs.Common.{◌≡◌, ℕ, ◌+◌, ◌<◌, Bool, true, false, List, length, Some, refl, sym, ap, ◌∙◌, subst, inl, inr, arith}
use Rattle.std.specs.Prelude.{slice_index}
use Rattle.mv_base.specs.Bytes.{AreBytes}
use Rattle.mv_base.specs.Memory.{byte_of, within, cell_is, exec_byte, exec_byte_of}
use Rattle.elf32_read.specs.Fields.{entry_at}
use Rattle.elf32_read.specs.Load.{load}
use Rattle.elf32_write.specs.Format.{up, private_len}
use Rattle.elf32_write.specs.File.{code_place, table_of, table_lo, private_lo, file_of}
use Rattle.elf32_write.specs.Frame.{frame_code, is_added, is_private, AscendPairs}
use Rattle.elf32_write.specs.ReadBack.{taken}
use Rattle.elf32_write.specs.Within.{within_parts}
use Rattle.image_layout.specs.Rules.{Rules}
use Rattle.image_layout.specs.Layout.{plan}
use Rattle.image_layout.specs.laws.Counters.{listed_ascend}
use Rattle.image_layout.specs.laws.NewCells.{not_within, within_is, InBlock, OutOfBlock}
use Rattle.image_layout.specs.laws.Fitting.{block, wrote}
use Rattle.image_layout.specs.laws.Fitting as fitting
use Rattle.mv_rewrite.specs.Layout.{chains, listed_at, code_len, table_len, table_from, private_from, plan_at}
use Rattle.simulation_laws.specs.Relocated.{IsOutput, IsRelocated}
use Rattle.mv_rewrite.proofs.PlacedPlan.{IsPlaced, map_is, others, mapped, pieces, stub_stands, table_added, table_are_bytes, table_holds, table_low, placed}
use Rattle.mv_rewrite.proofs.Planned.{private_size, length-code, length-table_of, length-counted, size_is, IsInput, room, has, fits}
use Rattle.mv_rewrite.proofs.Recorded.{frame_is, framed, table_there, counted_there}
use Rattle.image_layout.specs.laws.LayFacts.{ascend}
use Rattle.elf32_read.specs.Runs.{runs_of}
use Rattle.mv_rewrite.specs.Sites.{sites}

-- ---- the output

module _ (b : List ℕ) (rules : Rules) (base : ℕ) (is : IsInput b rules base) where
  abbrev x : List ℕ
  x = file_of b (plan_at b rules base)

  -- the plan's lengths, and where its parts are
  abbrev pub PlanLengths : Type 0
  PlanLengths = (length (plan_at b rules base).code ≡ code_len b rules) × (length (table_of (plan_at b rules base)) ≡ table_len b rules) × (length (plan_at b rules base).counted ≡ length (listed_at b rules))

  lengths : PlanLengths
  lengths = (length-code b rules base is.laid, length-table_of b rules base, length-counted b rules base)

  table_at : table_lo (plan_at b rules base) ≡ table_from b rules base
  unfolding plan
  table_at = ap (λ n. base + up n) lengths.0

  private_at : private_lo (plan_at b rules base) ≡ private_from b rules base
  unfolding plan
  private_at = λ i. base + up (lengths.0 i) + up (lengths.1 i)

  -- an address of the block, and one outside it
  pub in_block : (a : ℕ) → is_added (frame_is b rules base) a ≡ true → InBlock (block b (plan_at b rules base) (fits b rules base is)) a
  unfolding plan
  in_block a e =
      let q = within_parts base (up (code_len b rules) + up (table_len b rules) + up (private_size b rules)) a e in
      record { from = q.0; below = omega (arith, q.1, lengths.0, lengths.1, lengths.2) }

  out_block : (a : ℕ) → is_added (frame_is b rules base) a ≡ false → OutOfBlock (block b (plan_at b rules base) (fits b rules base is)) a
  unfolding plan
  out_block a e = elim (not_within base (up (code_len b rules) + up (table_len b rules) + up (private_size b rules)) a e) [
    | inl lt ↦ inl lt
    | inr le ↦ inr (omega (arith, le, lengths.0, lengths.1, lengths.2))
  ]

  pub private_within : (a : ℕ) (v : Bool) → is_private (frame_is b rules base) a ≡ v → within (private_lo (plan_at b rules base)) (private_len (length (plan_at b rules base).counted)) a ≡ v
  private_within a v e = (λ i. within (private_at i) (private_len (lengths.2 i)) a) ∙ e

  in_added : (a : ℕ) → InBlock (block b (plan_at b rules base) (fits b rules base is)) a → is_added (frame_is b rules base) a ≡ true
  unfolding plan
  in_added a at = within_is base (up (code_len b rules) + up (table_len b rules) + up (private_size b rules)) a (omega (arith, at.from)) (omega (arith, at.below, lengths.0, lengths.1, lengths.2))

  -- the table: the bytes that stand at its place
  pub table_words : (k : ℕ) → k < length (table_of (plan_at b rules base)) → load x (table_from b rules base + k) ≡ Some (record { byte = slice_index (table_of (plan_at b rules base)) k; write = false; exec = false })
  table_words k lt = ap (λ n. load x (n + k)) (sym table_at) ∙ fitting.table_cells b (plan_at b rules base) (fits b rules base is) k lt

  pub is_placed : IsPlaced b rules base x (frame_is b rules base)
  unfolding plan
  is_placed = record {
    table_is = table_there b rules base is;
    table_lo = refl;
    form_is = refl;
    code_lo = refl;
    runs_are = refl;
    private = refl;
    first_counter = refl;
    counted_are = counted_there b rules base is;
    added_lo = refl;
    added_len = sym (size_is b rules base);
    cells = fitting.code_cells b (plan_at b rules base) (fits b rules base is);
    words = table_words;
    positive = omega (arith, (room b rules base is).at, (room b rules base is).from);
    low = (room b rules base is).low;
    code = is.code;
    laid = is.laid;
    based = has b rules base is;
  }

  -- the code may be executed where the frame says
  code_runs : (k : ℕ) → k < length (frame_code (frame_is b rules base)) → exec_byte (load x) ((frame_is b rules base).code.lo + k) ≡ Some (slice_index (frame_code (frame_is b rules base)) k)
  code_runs k lt =
      let code = (plan_at b rules base).code in
      let is_code : frame_code (frame_is b rules base) ≡ code = taken x code (code_place (length b)) (code_len b rules) (length-code b rules base is.laid) (wrote b (plan_at b rules base) (fits b rules base is)).code_stands in
      let below : k < length code = omega (arith, lt, ap length is_code) in
      ap exec_byte_of (is_placed.cells k below) ∙ ap (λ (l : List ℕ). Some (slice_index l k)) (sym is_code)

  pub output_is : AreBytes x → IsOutput b x (frame_is b rules base)
  unfolding plan
  output_is there =
      let p = plan_at b rules base in
      let fit = fits b rules base is in
      let zero : (a : ℕ) → is_private (frame_is b rules base) a ≡ true → load x a ≡ Some (record { byte = 0; write = true; exec = false }) = λ a e. fitting.private_cells b p fit a (private_within a true e) in
      record {
        admitted = fitting.admitted b p fit;
        framed = framed b rules base is;
        low = omega (arith, (room b rules base is).low, size_is b rules base);
        bytes = is.bytes;
        bytes_there = there;
        outside = λ a e. fitting.outside b p fit a (out_block a e);
        free = λ a e. fitting.free b p fit a (in_block a e);
        scratch = λ a e. (in_added a (fitting.private_in b p fit a (private_within a true e)), ap (cell_is (λ c. c.write)) (zero a e));
        fixed = λ a e w. fitting.fixed b p fit a (in_block a e) (private_within a false w);
        idle = λ a e. ap (cell_is (λ c. c.exec)) (zero a e);
        zeros = λ a e. ap byte_of (zero a e);
        unwritable = fitting.unwritable b p fit;
        stub = stub_stands b rules base x (frame_is b rules base) is_placed;
        table_added = table_added b rules base x (frame_is b rules base) is_placed;
        table_bytes = table_are_bytes b rules base x (frame_is b rules base) is_placed;
        table_holds = table_holds b rules base x (frame_is b rules base) is_placed;
        table_low = table_low b rules base x (frame_is b rules base) is_placed;
        placed = placed b rules base x (frame_is b rules base) is_placed;
        mapped = mapped b rules base x (frame_is b rules base) is_placed;
        code = code_runs;
      }

  pub relocated : AreBytes x → IsRelocated b x (frame_is b rules base)
  unfolding plan
  relocated there = record {
    output = output_is there;
    ascends = subst AscendPairs (sym (counted_there b rules base is)) (listed_ascend rules (sites b) (ascend (runs_of b) (sites b) (chains b) is.laid));
    entry = (wrote b (plan_at b rules base) (fits b rules base is)).entry_is ∙ sym (map_is b rules base x (frame_is b rules base) is_placed (entry_at b));
    pieces = pieces b rules base x (frame_is b rules base) is_placed;
    others = others b rules base x (frame_is b rules base) is_placed;
  }
