-- What checking an input and its output gives.
use Rattle.std.proofs.Common.{◌≡◌, ℕ, List, Some, None, refl, sym, ap, ◌∙◌}
use Rattle.std.specs.Prelude.{Result, Ok, Err, IfErr}
use Rattle.std.proofs.lemmas.Option.{none-some, same_Some}
use Rattle.mv_base.specs.Bytes.{AreBytes}
use Rattle.elf32_read.specs.Fields.{entry_at}
use Rattle.elf32_write.specs.File.{file_of}
use Rattle.elf32_write.specs.Plans.{plan_of}
use Rattle.elf32_write.specs.Frame.{Frame, frame}
use Rattle.image_layout.specs.Rules.{Rules}
use Rattle.mv_rewrite.specs.OutputFile.{IsWrittenFor}
use Rattle.mv_rewrite.specs.Upgrading.{HasOutput}
use Rattle.pair_check.specs.declared.checking.CheckFault.{CheckFault}
use Rattle.pair_check.specs.declared.checking.CheckFault.TheVariants as fault
use Rattle.pair_check.specs.Parts.{differs}
use Rattle.pair_check.specs.Checking.{IsChecked}
use Rattle.pair_check.proofs.Answering.{both_none}
use Rattle.pair_check.proofs.Complete.{no_difference}

-- what a law says of outputs
abbrev pub AreWritten : Type 0
AreWritten = (b : List ℕ) (rules : Rules) (x : List ℕ) → HasOutput b rules x → AreBytes x → (f : Frame) × IsWrittenFor b rules x f × (x ≡ file_of b (plan_of (entry_at b) f))

output_alike : (b x : List ℕ) (rules : Rules) → AreWritten → AreBytes x → HasOutput b rules x → (f : Frame) × (frame x ≡ Some f) × (differs b x f ≡ None)
output_alike b x rules law there has =
    let is = law b rules x has there in
    (is.0, is.1.framed, no_difference b x rules is.0 (both_none b has.sound).0 is.1 is.2)

pub output_passes : (b x : List ℕ) (rules : Rules) (r : Result ℕ CheckFault) → AreWritten → AreBytes x → IsChecked b x r → HasOutput b rules x → IfErr r (λ e. e ≡ fault.NoMemory)
output_passes b x rules (Ok n) law there is has = tt
output_passes b x rules (Err (fault.Image g)) law there is has = absurd (none-some g (sym has.sound ∙ is))
output_passes b x rules (Err fault.NoFrame) law there is has =
    let w = output_alike b x rules law there has in
    absurd (none-some w.0 (sym is.none ∙ w.1))
output_passes b x rules (Err (fault.Differs d)) law there is has =
    let w = output_alike b x rules law there has in
    let same : w.0 ≡ is.found = same_Some w.0 is.found (sym w.1 ∙ is.framed) in
    absurd (none-some d (sym (ap (differs b x) (sym same) ∙ w.2) ∙ is.differs_so))
output_passes b x rules (Err fault.NoMemory) law there is has = refl
