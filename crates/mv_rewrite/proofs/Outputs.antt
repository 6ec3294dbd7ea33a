-- The output of a file with no fault simulates it.
use Rattle.std.proofs.Common.{◌≡◌, ℕ, ◌≤◌, List, length, Some, None}
use Rattle.mv_base.specs.Bytes.{AreBytes}
use Rattle.elf32_read.specs.Faults.{load_refusal, limit_fault}
use Rattle.elf32_read.specs.RunCount.{header_count-admitted}
use Rattle.elf32_read.specs.Segments.{code_of-runs_of}
use Rattle.image_layout.specs.Rules.{Rules}
use Rattle.mv_rewrite.specs.Layout.{base_of}
use Rattle.mv_rewrite.specs.Output.{output_at}
use Rattle.simulation_laws.specs.Stopping.{Simulates}
use Rattle.mv_rewrite.proofs.Planned.{IsInput}
use Rattle.mv_rewrite.proofs.LayoutFacts.{are_laid}
use Rattle.mv_rewrite.proofs.Recorded.{frame_is}
use Rattle.mv_rewrite.proofs.Relocating.{relocated}
use Rattle.simulation_laws.specs.laws.Simulating.{relocated_simulates}

pub simulated : (b : List ℕ) (rules : Rules) (base : ℕ) → IsInput b rules base → AreBytes (output_at b rules base) → Simulates b (output_at b rules base)
simulated b rules base is there = relocated_simulates b (output_at b rules base) (frame_is b rules base) (relocated b rules base is there)

-- a file with no fault, within the limits, is an input for the block where it lies
pub image_input : (b : List ℕ) (rules : Rules) (base : ℕ) → load_refusal b ≡ None → limit_fault b ≡ None → AreBytes b → length b ≤ 268435456 → base_of b rules ≡ Some base → IsInput b rules base
image_input b rules base whole admitted bytes small at = record {
  bytes = bytes;
  small = small;
  loads = whole;
  few_headers = header_count-admitted b admitted;
  base_is = at;
  code = code_of-runs_of b whole;
  laid = are_laid b whole admitted;
}
