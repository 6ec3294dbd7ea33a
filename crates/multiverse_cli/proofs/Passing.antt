-- A check of an output beside its image says yes.
use Rattle.std.proofs.Common.{◌≡◌, ℕ, List, [], ◌∷◌, Option, Some, None, Result, Err, IfErr, sym, subst, inl, inr}
use Rattle.std.proofs.lemmas.Option.{none-some}
use Rattle.mv_base.specs.Bytes.{AreBytes}
use Rattle.mv_base.specs.declared.status.Status.{Status}
use Rattle.mv_base.specs.declared.status.Status.TheVariants.{Done, Usage, ReadFault, WriteFault, BadImage, NoRoom, BadLog, NoMemory, SinkFault, TooLarge, BadSource, Differs, NoFrame}
use Rattle.image_layout.specs.Rules.{Rules}
use Rattle.mv_rewrite.specs.Upgrading.{HasOutput}
use Rattle.pair_check.specs.declared.checking.CheckFault.{CheckFault}
use Rattle.pair_check.specs.declared.checking.CheckFault.TheVariants as fault
use Rattle.pair_check.specs.Checking.{IsChecked}
use Rattle.multiverse_cli.specs.declared.refusal.Defect.{Defect}
use Rattle.multiverse_cli.specs.declared.refusal.Defect.TheVariants as defect
use Rattle.multiverse_cli.specs.Answers.{ChecksOutput, Comes, ComesAt, LacksFor, PassesOutputs, SaysYes}
use Rattle.multiverse_cli.specs.Commands.{IsNotAlike, Lacks}
use Rattle.multiverse_cli.specs.Outside.{Stored, Printed}
use Rattle.multiverse_cli.specs.Words.{Asked, Work, output_of}
use Rattle.multiverse_cli.proofs.Inputs.{read-large, read-one}

-- what the law of outputs says: a check of them gives a yes, or want of memory
abbrev pub OutputsPass : Type 0
OutputsPass =
    (b : List ℕ) (rules : Rules) (x : List ℕ) → HasOutput b rules x → AreBytes x → (r : Result ℕ CheckFault) → IsChecked b x r
    → IfErr r (λ e. e ≡ fault.NoMemory)

abbrev IsMemory : CheckFault → Type 0
IsMemory (fault.Image f) = ⊥
IsMemory fault.NoFrame = ⊥
IsMemory (fault.Differs d) = ⊥
IsMemory fault.NoMemory = Unit {0}

module _ (law : OutputsPass) (b x : List ℕ) (which : Rules) (has : HasOutput b which x) (bytes : AreBytes x) where
  of-memory : (e : CheckFault) → IsChecked b x (Err e) → IsMemory e
  of-memory e h = subst IsMemory (sym (law b which x has bytes (Err e) h)) tt

  alike : (why : Defect) → IsNotAlike b x why → ⊥
  alike defect.NoFrame h = of-memory fault.NoFrame h
  alike (defect.BadImage f) h = of-memory (fault.Image f) h
  alike (defect.BadLog n) h = h
  alike (defect.BadSource n) h = h
  alike (defect.Differs found) h = of-memory (fault.Differs found) h
  alike (defect.TooLarge n) h = h
  alike (defect.NoRoom n) h = h

module _ (law : OutputsPass) (a : Asked) (s : Stored) (k : Printed) (h : ChecksOutput a s) where
  abbrev files : List (List ℕ)
  files = h.image ∷ h.written ∷ []

  no-lack : (status : Status) → LacksFor status a s → ⊥
  no-lack status l =
      let P : List (List ℕ) → Type 0 = λ fs. Lacks a.work fs l.0 in
      let Q : Work → Type 0 = λ w. Lacks w files l.0 in
      alike law h.image h.written h.which h.is_output h.bytes l.0
      (subst Q h.is_check (subst P (read-one s h.tells a.reads l.2.inputs files l.2.read h.read) l.2.lacks))

  -- a check writes nothing
  no-output : (name : List ℕ) → output_of a.work ≡ Some name → ⊥
  no-output name is =
      let P : Work → Type 0 = λ w. output_of w ≡ Some name in
      none-some name (subst P h.is_check is)

  yes : (status : Status) → ComesAt status a s k → SaysYes status
  yes Done c = tt
  yes Usage c = c
  yes ReadFault c = tt
  yes TooLarge c = elim c [
    | inl large ↦ read-large s h.tells a.reads files large.0 h.read large.1
    | inr lacks ↦ no-lack TooLarge lacks
  ]
  yes BadSource c = no-lack BadSource c
  yes Differs c = no-lack Differs c
  yes NoFrame c = no-lack NoFrame c
  yes BadImage c = no-lack BadImage c
  yes BadLog c = no-lack BadLog c
  yes NoRoom c = no-lack NoRoom c
  yes WriteFault c = no-output c.0.0 c.0.1.is_output
  yes SinkFault c = tt
  yes NoMemory c = tt

-- outputs pass
pub passes-of :
    OutputsPass → (status : Status) (asked : Option Asked) (s : Stored) (k : Printed) → Comes status asked s k
    → PassesOutputs status asked s
passes-of law status None s k h = tt
passes-of law status (Some a) s k h = λ o. yes law a s k o status h
