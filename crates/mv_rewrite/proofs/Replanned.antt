-- The plan that is taken from an output's frame is the one that was written.
use Rattle.std.proofs.Common.{◌≡◌, ℕ, List, refl, sym, ap, ◌∙◌, subst}
use Rattle.mv_base.specs.Bytes.{AreBytes}
use Rattle.elf32_read.specs.Fields.{entry_at}
use Rattle.elf32_write.specs.File.{file_of}
use Rattle.elf32_write.specs.Frame.{Frame}
use Rattle.elf32_write.specs.Plans.{plan_of}
use Rattle.image_layout.specs.Rules.{Rules}
use Rattle.counter_hooks.specs.Rules.{number_of}
use Rattle.edge_hooks.specs.Rules as edge
use Rattle.image_layout.specs.Layout.{plan}
use Rattle.mv_rewrite.specs.Layout.{runs_at, plan_at}
use Rattle.mv_rewrite.specs.OutputFile.{IsWrittenFor}
use Rattle.mv_rewrite.specs.Upgrading.{HasOutput}
use Rattle.mv_rewrite.proofs.Planned.{IsInput}
use Rattle.mv_rewrite.proofs.Recorded.{frame_is, words_there, counted_there}
use Rattle.mv_rewrite.proofs.OutputFacts.{code_there, maps_so, written_for}
use Rattle.mv_rewrite.proofs.Assembled.{output_of}

same_plan : (b : List ℕ) (rules : Rules) (base : ℕ) → IsInput b rules base → plan_at b rules base ≡ plan_of (entry_at b) (frame_is b rules base)
unfolding plan
same_plan b rules base is = λ i. record {
  base = base;
  code = sym (code_there b rules base is) i;
  table = sym (words_there b rules base is) i;
  counted = sym (counted_there b rules base is) i;
  runs = runs_at b rules base;
  entry = sym (maps_so b rules base is (entry_at b)) i;
  rule = number_of rules.all;
  edge_rule = edge.number_of rules.ways;
}

-- the file for an input by a rules, with its frame, from which it can be written again
pub are_written : (b : List ℕ) (rules : Rules) (x : List ℕ) → HasOutput b rules x → AreBytes x → (f : Frame) × IsWrittenFor b rules x f × (x ≡ file_of b (plan_of (entry_at b) f))
are_written b rules x has there =
    let o = output_of b rules x has.sound has.bytes has.short has.output_is in
    let bytes = subst (λ (l : List ℕ). AreBytes l) (sym o.same) there in (
      frame_is b rules o.base,
      subst (λ (y : List ℕ). IsWrittenFor b rules y (frame_is b rules o.base)) o.same (written_for b rules o.base o.input bytes),
      sym o.same ∙ ap (file_of b) (same_plan b rules o.base o.input),
    )
