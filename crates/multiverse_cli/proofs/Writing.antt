-- From what reading, the verdict and writing did, to what the command did.
use Rattle.std.proofs.Common.{◌≡◌, ℕ, List, Option, Some, Result, Ok, Err, IsErrAnd, sym, ◌∙◌, ap, subst, inl, inr}
use Rattle.mv_base.specs.Holding.{KeepsOrBegins}
use Rattle.mv_base.specs.Faults.{Rose}
use Rattle.multiverse_cli.specs.declared.failure.Failure.{Failure}
use Rattle.multiverse_cli.specs.declared.failure.Failure.TheVariants as failure
use Rattle.multiverse_cli.specs.declared.failure.Objection.{Objection}
use Rattle.multiverse_cli.specs.declared.failure.Objection.TheVariants as objection
use Rattle.multiverse_cli.specs.declared.refusal.Refusal.TheVariants as refusal
use Rattle.multiverse_cli.specs.declared.listing.Printout.{Printout}
use Rattle.multiverse_cli.specs.Commands.{NewFile, Delivery}
use Rattle.multiverse_cli.specs.Answers.{AreRead, IsDelivery, BeginsToStore, HasBegun}
use Rattle.multiverse_cli.specs.Failures.{failure_of}
use Rattle.multiverse_cli.specs.Outside.{Stored, Holds, IsWriteFault, KeepsAll, KeepsOthers}
use Rattle.multiverse_cli.specs.Steps.{Carries, ReadsFiles, WritesFile, HoldsPart}
use Rattle.multiverse_cli.specs.Verdicts.{IsVerdict}
use Rattle.multiverse_cli.specs.Words.{Asked, output_of}

-- a step of a longer call, which began with the same store as far as this goes, and ended with the same one
pub record IsLastStep (w s : Stored) : Type 0 where
  pub tells : w.tells ≡ s.tells
  pub before : w.before ≡ s.before
  pub after : w.after ≡ s.after
  pub writes_before : w.writes_before ≡ s.writes_before
  pub writes_after : w.writes_after ≡ s.writes_after
  pub failed : w.failed ≡ s.failed

-- other names are kept by the whole call
pub others-whole : (w s : Stored) (name : List ℕ) → IsLastStep w s → KeepsOthers w name → KeepsOthers s name
others-whole w s name last keeps other h =
    ap (λ f. f other) (sym last.after) ∙ (keeps other h ∙ ap (λ f. f other) last.before)

-- what the step holds, the whole call holds
part-whole : (w s : Stored) (name bytes : List ℕ) → IsLastStep w s → HoldsPart w name bytes → HoldsPart s name bytes
part-whole w s name bytes last part t =
    let P : (List ℕ → Option (List ℕ)) → Type 0 = λ f. KeepsOrBegins (f name) (s.after name) bytes in
    let Q : (List ℕ → Option (List ℕ)) → Type 0 = λ f. KeepsOrBegins (w.before name) (f name) bytes in
    subst P last.before (subst Q last.after (part (last.tells ∙ t)))

-- a write fault of the step is one of the whole call
fault-whole : (w s : Stored) (name : List ℕ) → IsLastStep w s → IsWriteFault w name → IsWriteFault s name
fault-whole w s name last fault =
    let P : ℕ → Type 0 = λ n. Rose n s.writes_after in
    let Q : ℕ → Type 0 = λ n. Rose w.writes_before n in
    record {
      rose = subst P last.writes_before (subst Q last.writes_after fault.rose);
      failed = sym last.failed ∙ fault.failed;
    }

-- what the last step made a name hold, the whole call made it hold
pub holds-whole : (w s : Stored) (name bytes : List ℕ) → IsLastStep w s → Holds w name bytes → Holds s name bytes
holds-whole w s name bytes last holds t = ap (λ f. f name) (sym last.after) ∙ holds (last.tells ∙ t)

-- a write that failed has begun to store the delivery at most
begins-whole :
    (a : Asked) (w s : Stored) (d : Delivery) (f : NewFile) → IsLastStep w s → IsDelivery a s d → d.file ≡ Some f
    → HoldsPart w f.name f.bytes → KeepsOthers w f.name → HasBegun a s
begins-whole a w s d f last is file part others =
    let P : Option NewFile → Type 0 = BeginsToStore s in
    (d, is, subst P (sym file) (part-whole w s f.name f.bytes last part, others-whole w s f.name last others))

-- a write that failed is what the command comes to
pub fails-whole :
    (e : Failure) (a : Asked) (w s : Stored) (d : Delivery) (f : NewFile) → IsLastStep w s → IsDelivery a s d
    → d.file ≡ Some f → output_of a.work ≡ Some f.name → WritesFile {A = Unit {0}} (Err e) f.name f.bytes w
    → KeepsOthers w f.name → Carries (Err e) a s
fails-whole failure.NoMemory a w s d f last is file named part others =
    inr (begins-whole a w s d f last is file part others)
fails-whole (failure.Refused refusal.Usage) a w s d f last is file named h others = absurd h.0
fails-whole (failure.Refused (refusal.ReadFault n)) a w s d f last is file named h others = absurd h.0
fails-whole (failure.Refused (refusal.TooLarge n)) a w s d f last is file named h others = absurd h.0
fails-whole (failure.Refused (refusal.Lacking why)) a w s d f last is file named h others = absurd h.0
fails-whole (failure.Refused (refusal.WriteFault n)) a w s d f last is file named h others =
    let P : List ℕ → Type 0 = λ m. IsWriteFault s m in (
      record {
        is_output = named ∙ ap Some (sym h.0.0);
        fault = subst P (sym h.0.0) (fault-whole w s f.name last h.0.1);
      },
      begins-whole a w s d f last is file h.1 others,
    )

-- files that were not read are what the command comes to
pub unread-whole :
    (e : Failure) (a : Asked) (s : Stored) → KeepsAll s → ReadsFiles (Err e) a.reads s → Carries (Err e) a s
unread-whole failure.NoMemory a s keeps h = inl keeps
unread-whole (failure.Refused refusal.Usage) a s keeps h = absurd h
unread-whole (failure.Refused (refusal.ReadFault n)) a s keeps h = (record { next = h.0; fault = h.1 }, keeps)
unread-whole (failure.Refused (refusal.TooLarge n)) a s keeps h = (h, keeps)
unread-whole (failure.Refused (refusal.Lacking why)) a s keeps h = absurd h
unread-whole (failure.Refused (refusal.WriteFault n)) a s keeps h = absurd h

-- what the verdict objects is what the command comes to
pub objects-whole :
    (o : Objection) (a : Asked) (s : Stored) (files : List (List ℕ)) → KeepsAll s → AreRead s a.reads files
    → IsVerdict a.work files (Err o) → Carries (Err (failure_of o)) a s
objects-whole (objection.Lacking why) a s files keeps read h = (record { inputs = files; read = read; lacks = h }, keeps)
objects-whole objection.NoMemory a s files keeps read h = inl keeps

-- an error that was passed on is what the command comes to
pub passes-on :
    (r : Result Printout Failure) (e : Failure) (a : Asked) (s : Stored) → IsErrAnd r (λ f. f ≡ e)
    → Carries (Err e) a s → Carries r a s
passes-on (Ok text) e a s is h = absurd is
passes-on (Err f) e a s is h = let P : Failure → Type 0 = λ g. Carries (Err g) a s in subst P (sym is) h
