-- Counts of faults, from what was tried and reported to which answer they have.
use Rattle.std.proofs.Common.{◌≡◌, ℕ, ◌<◌, List, Option, Result, Ok, Err, IsErrAnd, refl, sym, ◌∙◌, subst, inl, inr, arith}
use Rattle.mv_base.specs.declared.status.Status.{Status}
use Rattle.mv_base.specs.declared.status.Status.TheVariants.{Done, ReadFault, WriteFault, NoMemory}
use Rattle.multiverse_cli.specs.declared.failure.Failure.{Failure}
use Rattle.multiverse_cli.specs.declared.failure.Failure.TheVariants as failure
use Rattle.multiverse_cli.specs.declared.refusal.Defect.{Defect}
use Rattle.multiverse_cli.specs.declared.refusal.Defect.TheVariants as defect
use Rattle.multiverse_cli.specs.declared.refusal.Refusal.{Refusal}
use Rattle.multiverse_cli.specs.declared.refusal.Refusal.TheVariants as refusal
use Rattle.multiverse_cli.specs.declared.listing.Printout.{Printout}
use Rattle.multiverse_cli.specs.Answers.{IsOwed, IsUnlessMemory}
use Rattle.multiverse_cli.specs.Outside.{Stored, Printed, HasReadFault, HasWriteFault, HasSinkFault, KeepsReads, KeepsWrites}
use Rattle.multiverse_cli.specs.Steps.{FailureKeeps, KeepsCounts, KeepsIfDone, PrintsRefusal, Reports}
use Rattle.multiverse_cli.specs.Texts.{status_of, defect_status}

-- both counts of a longer stretch of calls, whose first part left them, are those of its last part
pub record IsLater (w s : Stored) : Type 0 where
  pub reads_before : w.reads_before ≡ s.reads_before
  pub writes_before : w.writes_before ≡ s.writes_before
  pub reads_after : w.reads_after ≡ s.reads_after
  pub writes_after : w.writes_after ≡ s.writes_after

reads-later : (w s : Stored) → IsLater w s → KeepsReads w → KeepsReads s
reads-later w s later h = sym later.reads_after ∙ (h ∙ later.reads_before)

writes-later : (w s : Stored) → IsLater w s → KeepsWrites w → KeepsWrites s
writes-later w s later h = sym later.writes_after ∙ (h ∙ later.writes_before)

pub failure-later : (f : Failure) (w s : Stored) → IsLater w s → FailureKeeps f w → FailureKeeps f s
failure-later (failure.Refused refusal.Usage) w s later h = (reads-later w s later h.0, writes-later w s later h.1)
failure-later (failure.Refused (refusal.ReadFault n)) w s later h = writes-later w s later h
failure-later (failure.Refused (refusal.TooLarge n)) w s later h = (reads-later w s later h.0, writes-later w s later h.1)
failure-later (failure.Refused (refusal.Lacking y)) w s later h = (reads-later w s later h.0, writes-later w s later h.1)
failure-later (failure.Refused (refusal.WriteFault n)) w s later h = reads-later w s later h
failure-later failure.NoMemory w s later h = tt

-- an error that was passed on
pub passes-counts : {A : Type 0} (r : Result A Failure) (e : Failure) (s : Stored) → IsErrAnd r (λ f. f ≡ e) → FailureKeeps e s → KeepsCounts r s
passes-counts (Ok x) e s is h = absurd is
passes-counts (Err f) e s is h = let P : Failure → Type 0 = λ g. FailureKeeps g s in subst P (sym is) h

-- ---- which answer the counts have

-- a count that is as it was didn't go up
unread : (s : Stored) → KeepsReads s → HasReadFault s → ⊥
unread s same more = omega arith

unwritten : (s : Stored) → KeepsWrites s → HasWriteFault s → ⊥
unwritten s same more = omega arith

unless : (status : Status) (why : Refusal) (k : Printed) → PrintsRefusal status why k → IsUnlessMemory status (status_of why)
unless status why k h = elim h [ inl is ↦ inl is.answer_is | inr is ↦ inr is.answer_is ]

reading-owed : (status : Status) (why : Refusal) (s : Stored) (k : Printed) → FailureKeeps (failure.Refused why) s → PrintsRefusal status why k → HasReadFault s → IsUnlessMemory status ReadFault
reading-owed status refusal.Usage s k keeps h more = absurd (unread s keeps.0 more)
reading-owed status (refusal.ReadFault n) s k keeps h more = unless status (refusal.ReadFault n) k h
reading-owed status (refusal.TooLarge n) s k keeps h more = absurd (unread s keeps.0 more)
reading-owed status (refusal.Lacking why) s k keeps h more = absurd (unread s keeps.0 more)
reading-owed status (refusal.WriteFault n) s k keeps h more = absurd (unread s keeps more)

writing-owed : (status : Status) (why : Refusal) (s : Stored) (k : Printed) → FailureKeeps (failure.Refused why) s → PrintsRefusal status why k → HasWriteFault s → IsUnlessMemory status WriteFault
writing-owed status refusal.Usage s k keeps h more = absurd (unwritten s keeps.1 more)
writing-owed status (refusal.ReadFault n) s k keeps h more = absurd (unwritten s keeps more)
writing-owed status (refusal.TooLarge n) s k keeps h more = absurd (unwritten s keeps.1 more)
writing-owed status (refusal.Lacking why) s k keeps h more = absurd (unwritten s keeps.1 more)
writing-owed status (refusal.WriteFault n) s k keeps h more = unless status (refusal.WriteFault n) k h

printing-owed : (status : Status) (k : Printed) → KeepsIfDone status k → HasSinkFault k → status ≡ Done → ⊥
printing-owed status k keeps more is = let same = keeps is in omega arith

-- which answer the counts have
pub owed-of :
    (r : Result Printout Failure) (status : Status) (s : Stored) (k : Printed)
    → KeepsCounts r s → Reports status r k → KeepsIfDone status k → IsOwed status s k
owed-of (Ok text) status s k keeps reported done =
    record { reading = λ more. absurd (unread s keeps.0 more); writing = λ more. absurd (unwritten s keeps.1 more); printing = printing-owed status k done }
owed-of (Err (failure.Refused why)) status s k keeps reported done =
    record {
      reading = reading-owed status why s k keeps reported;
      writing = writing-owed status why s k keeps reported;
      printing = printing-owed status k done;
    }
owed-of (Err failure.NoMemory) status s k keeps reported done =
    record { reading = λ more. inr reported.0; writing = λ more. inr reported.0; printing = printing-owed status k done }

-- ---- what is reported

not-done : (why : Refusal) → status_of why ≡ Done → ⊥
not-done refusal.Usage e = cc
not-done (refusal.ReadFault n) e = cc
not-done (refusal.TooLarge n) e = cc
not-done (refusal.Lacking defect.NoFrame) e = cc
not-done (refusal.Lacking (defect.BadImage f)) e = cc
not-done (refusal.Lacking (defect.BadLog n)) e = cc
not-done (refusal.Lacking (defect.BadSource n)) e = cc
not-done (refusal.Lacking (defect.Differs d)) e = cc
not-done (refusal.Lacking (defect.TooLarge n)) e = cc
not-done (refusal.Lacking (defect.NoRoom n)) e = cc
not-done (refusal.WriteFault n) e = cc

memory-not-done : NoMemory ≡ Done → ⊥
memory-not-done e = cc

-- a refusal isn't done
pub refusal-keeps : (status : Status) (why : Refusal) (k : Printed) → PrintsRefusal status why k → KeepsIfDone status k
refusal-keeps status why k h = elim h [
  | inl is ↦ λ done. absurd (not-done why (sym is.answer_is ∙ done))
  | inr is ↦ λ done. absurd (memory-not-done (sym is.answer_is ∙ done))
]
