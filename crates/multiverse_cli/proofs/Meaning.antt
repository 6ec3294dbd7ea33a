-- From what was tried and what was reported, to what the answer means.
use Rattle.std.proofs.Common.{◌≡◌, ℕ, ◌⊎◌, List, [], Option, Some, None, Result, Ok, Err, refl, sym, ◌∙◌, ap, subst, inl, inr, append-nil}
use Rattle.mv_base.specs.Holding.{KeepsOrBegins}
use Rattle.mv_base.specs.declared.status.Status.{Status}
use Rattle.mv_base.specs.declared.status.Status.TheVariants.{Done, Usage, ReadFault, WriteFault, BadImage, NoRoom, BadLog, NoMemory, SinkFault, TooLarge, BadSource, Differs, NoFrame}
use Rattle.multiverse_cli.specs.declared.failure.Failure.{Failure}
use Rattle.multiverse_cli.specs.declared.failure.Failure.TheVariants as failure
use Rattle.multiverse_cli.specs.declared.refusal.Defect.{Defect}
use Rattle.multiverse_cli.specs.declared.refusal.Defect.TheVariants as defect
use Rattle.multiverse_cli.specs.declared.refusal.Refusal.{Refusal}
use Rattle.multiverse_cli.specs.declared.refusal.Refusal.TheVariants as refusal
use Rattle.multiverse_cli.specs.declared.listing.Printout.{Printout}
use Rattle.multiverse_cli.specs.Commands.{NewFile}
use Rattle.multiverse_cli.specs.Listing.{printout_text}
use Rattle.multiverse_cli.specs.Answers.{IsLacking, Stores, BeginsToStore, Comes, ComesAt, ComesWithout, Leaves, LeavesAt, Prints, PrintsAt, PrintsWithout, IsCutOff, OfMemory, OfRead, OfSize, OfDefect, OfWrite, OfDone, DeliversAll}
use Rattle.multiverse_cli.specs.Outside.{Stored, Printed, KeepsAll, Says, SaysPart}
use Rattle.multiverse_cli.specs.Steps.{Attempts, IsCarriedOut, PrintsText, PrintsRefusal, Refuses, Reports}
use Rattle.multiverse_cli.specs.Texts.{status_of, message_of, memory_message, defect_status, defect_message}
use Rattle.multiverse_cli.specs.Words.{Asked}

-- ---- when an answer comes

comes-text :
    (status : Status) (a : Asked) (s : Stored) (k : Printed) (text : List ℕ) → IsCarriedOut a s text → PrintsText status text k
    → ComesAt status a s k
comes-text Done a s k text is h = (is.delivery, is.is)
comes-text Usage a s k text is h = absurd h
comes-text ReadFault a s k text is h = absurd h
comes-text TooLarge a s k text is h = absurd h
comes-text BadSource a s k text is h = absurd h
comes-text Differs a s k text is h = absurd h
comes-text NoFrame a s k text is h = absurd h
comes-text BadImage a s k text is h = absurd h
comes-text BadLog a s k text is h = absurd h
comes-text NoRoom a s k text is h = absurd h
comes-text WriteFault a s k text is h = absurd h
comes-text SinkFault a s k text is h = (h.0, (is.delivery, is.is))
comes-text NoMemory a s k text is h = tt

comes-defect : (why : Defect) (a : Asked) (s : Stored) (k : Printed) → IsLacking a s why → ComesAt (defect_status why) a s k
comes-defect defect.NoFrame a s k h = (defect.NoFrame, refl, h)
comes-defect (defect.BadImage fault) a s k h = (defect.BadImage fault, refl, h)
comes-defect (defect.BadLog line) a s k h = (defect.BadLog line, refl, h)
comes-defect (defect.BadSource line) a s k h = (defect.BadSource line, refl, h)
comes-defect (defect.Differs found) a s k h = (defect.Differs found, refl, h)
comes-defect (defect.TooLarge size) a s k h = inr (defect.TooLarge size, refl, h)
comes-defect (defect.NoRoom size) a s k h = (defect.NoRoom size, refl, h)

comes-why : (why : Refusal) (a : Asked) (s : Stored) (k : Printed) → Refuses why a s → ComesAt (status_of why) a s k
comes-why refusal.Usage a s k h = h
comes-why (refusal.ReadFault name) a s k h = (name.now, h.0)
comes-why (refusal.TooLarge name) a s k h = inl (name.now, h.0)
comes-why (refusal.Lacking why) a s k h = comes-defect why a s k h.0
comes-why (refusal.WriteFault name) a s k h = ((name.now, h.0), (h.1.0, h.1.1))

comes-refused :
    (status : Status) (why : Refusal) (a : Asked) (s : Stored) (k : Printed) → Refuses why a s → PrintsRefusal status why k
    → ComesAt status a s k
comes-refused status why a s k h reported =
    let P : Status → Type 0 = λ st. ComesAt st a s k in
    elim reported [ inl is ↦ subst P (sym is.answer_is) (comes-why why a s k h) | inr is ↦ subst P (sym is.answer_is) tt ]

comes-without :
    (status : Status) (why : Refusal) (k : Printed) → why ≡ refusal.Usage → PrintsRefusal status why k → ComesWithout status
comes-without status why k e reported =
    let P : Status → Type 0 = ComesWithout in
    elim reported [ inl is ↦ subst P (sym (is.answer_is ∙ ap status_of e)) tt | inr is ↦ subst P (sym is.answer_is) tt ]

-- when the answer may come
pub comes-of :
    (r : Result Printout Failure) (status : Status) (asked : Option Asked) (s : Stored) (k : Printed)
    → Attempts r asked s → Reports status r k → Comes status asked s k
comes-of (Ok text) status None s k tried reported = absurd tried
comes-of (Ok text) status (Some a) s k tried reported = comes-text status a s k (printout_text text) tried reported
comes-of (Err (failure.Refused why)) status None s k tried reported = comes-without status why k tried.0 reported
comes-of (Err (failure.Refused why)) status (Some a) s k tried reported = comes-refused status why a s k tried reported
comes-of (Err failure.NoMemory) status None s k tried reported = absurd tried
comes-of (Err failure.NoMemory) status (Some a) s k tried reported =
    let P : Status → Type 0 = λ st. ComesAt st a s k in subst P (sym reported.0) tt

-- ---- what an answer leaves in the store

-- what was stored whole was begun
pub stored-begun : (s : Stored) (file : Option NewFile) → Stores s file → BeginsToStore s file
stored-begun s None h = h
stored-begun s (Some f) h = (
  λ t.
      let P : Option (List ℕ) → Type 0 = λ o. KeepsOrBegins (s.before f.name) o f.bytes in
      subst P (sym (h.0 t)) (inr ([], sym (append-nil f.bytes))),
  h.1,
)

leaves-text :
    (status : Status) (a : Asked) (s : Stored) (k : Printed) (text : List ℕ) → IsCarriedOut a s text → PrintsText status text k
    → LeavesAt status a s
leaves-text Done a s k text is h = (is.delivery, is.is, is.stored)
leaves-text Usage a s k text is h = absurd h
leaves-text ReadFault a s k text is h = absurd h
leaves-text TooLarge a s k text is h = absurd h
leaves-text BadSource a s k text is h = absurd h
leaves-text Differs a s k text is h = absurd h
leaves-text NoFrame a s k text is h = absurd h
leaves-text BadImage a s k text is h = absurd h
leaves-text BadLog a s k text is h = absurd h
leaves-text NoRoom a s k text is h = absurd h
leaves-text WriteFault a s k text is h = absurd h
leaves-text SinkFault a s k text is h = (is.delivery, is.is, is.stored)
leaves-text NoMemory a s k text is h = inr (is.delivery, is.is, stored-begun s is.delivery.file is.stored)

leaves-defect : (why : Defect) (a : Asked) (s : Stored) → KeepsAll s → LeavesAt (defect_status why) a s
leaves-defect defect.NoFrame a s h = h
leaves-defect (defect.BadImage fault) a s h = h
leaves-defect (defect.BadLog line) a s h = h
leaves-defect (defect.BadSource line) a s h = h
leaves-defect (defect.Differs found) a s h = h
leaves-defect (defect.TooLarge size) a s h = h
leaves-defect (defect.NoRoom size) a s h = h

leaves-why : (why : Refusal) (a : Asked) (s : Stored) → Refuses why a s → LeavesAt (status_of why) a s
leaves-why refusal.Usage a s h = absurd h
leaves-why (refusal.ReadFault name) a s h = h.1
leaves-why (refusal.TooLarge name) a s h = h.1
leaves-why (refusal.Lacking why) a s h = leaves-defect why a s h.1
leaves-why (refusal.WriteFault name) a s h = h.1

-- a refusal leaves what want of memory may leave
leaves-starved : (why : Refusal) (a : Asked) (s : Stored) → Refuses why a s → LeavesAt NoMemory a s
leaves-starved refusal.Usage a s h = absurd h
leaves-starved (refusal.ReadFault name) a s h = inl h.1
leaves-starved (refusal.TooLarge name) a s h = inl h.1
leaves-starved (refusal.Lacking why) a s h = inl h.1
leaves-starved (refusal.WriteFault name) a s h = inr h.1

leaves-refused :
    (status : Status) (why : Refusal) (a : Asked) (s : Stored) (k : Printed) → Refuses why a s → PrintsRefusal status why k
    → LeavesAt status a s
leaves-refused status why a s k h reported =
    let P : Status → Type 0 = λ st. LeavesAt st a s in
    elim reported [ inl is ↦ subst P (sym is.answer_is) (leaves-why why a s h) | inr is ↦ subst P (sym is.answer_is) (leaves-starved why a s h) ]

-- what the answer leaves in the store
pub leaves-of :
    (r : Result Printout Failure) (status : Status) (asked : Option Asked) (s : Stored) (k : Printed)
    → Attempts r asked s → Reports status r k → Leaves status asked s
leaves-of (Ok text) status None s k tried reported = absurd tried
leaves-of (Ok text) status (Some a) s k tried reported = leaves-text status a s k (printout_text text) tried reported
leaves-of (Err (failure.Refused why)) status None s k tried reported = tried.1
leaves-of (Err (failure.Refused why)) status (Some a) s k tried reported = leaves-refused status why a s k tried reported
leaves-of (Err failure.NoMemory) status None s k tried reported = absurd tried
leaves-of (Err failure.NoMemory) status (Some a) s k tried reported =
    let P : Status → Type 0 = λ st. LeavesAt st a s in subst P (sym reported.0) tried

-- ---- what an answer prints

prints-text :
    (status : Status) (a : Asked) (s : Stored) (k : Printed) (text : List ℕ) (is : IsCarriedOut a s text)
    → PrintsText status is.delivery.text k → PrintsAt status a s k
prints-text Done a s k text is h = (is.delivery, is.is, h)
prints-text Usage a s k text is h = absurd h
prints-text ReadFault a s k text is h = absurd h
prints-text TooLarge a s k text is h = absurd h
prints-text BadSource a s k text is h = absurd h
prints-text Differs a s k text is h = absurd h
prints-text NoFrame a s k text is h = absurd h
prints-text BadImage a s k text is h = absurd h
prints-text BadLog a s k text is h = absurd h
prints-text NoRoom a s k text is h = absurd h
prints-text WriteFault a s k text is h = absurd h
prints-text SinkFault a s k text is h = (is.delivery, is.is, h.1)
prints-text NoMemory a s k text is h = (is.delivery.text, OfDone is.delivery is.is, h)

says-defect :
    (why : Defect) (a : Asked) (s : Stored) (k : Printed) → IsLacking a s why → Says k (defect_message why)
    → PrintsAt (defect_status why) a s k
says-defect defect.NoFrame a s k h said = (defect.NoFrame, refl, h, said)
says-defect (defect.BadImage fault) a s k h said = (defect.BadImage fault, refl, h, said)
says-defect (defect.BadLog line) a s k h said = (defect.BadLog line, refl, h, said)
says-defect (defect.BadSource line) a s k h said = (defect.BadSource line, refl, h, said)
says-defect (defect.Differs found) a s k h said = (defect.Differs found, refl, h, said)
says-defect (defect.TooLarge size) a s k h said = inr (defect.TooLarge size, refl, h, said)
says-defect (defect.NoRoom size) a s k h said = (defect.NoRoom size, refl, h, said)

-- the message of a refusal, as it is said of the command
says-why :
    (why : Refusal) (a : Asked) (s : Stored) (k : Printed) → Refuses why a s → Says k (message_of why)
    → PrintsAt (status_of why) a s k
says-why refusal.Usage a s k h said = absurd h
says-why (refusal.ReadFault name) a s k h said = (name.now, h.0, said)
says-why (refusal.TooLarge name) a s k h said = inl (name.now, h.0, said)
says-why (refusal.Lacking why) a s k h said = says-defect why a s k h.0 said
says-why (refusal.WriteFault name) a s k h said = (name.now, h.0, said)

-- the message of a refusal is one that want of memory may cut off
cut-off : (why : Refusal) (a : Asked) (s : Stored) → Refuses why a s → IsCutOff a s (message_of why)
cut-off refusal.Usage a s h = absurd h
cut-off (refusal.ReadFault name) a s h = OfRead name.now h.0
cut-off (refusal.TooLarge name) a s h = OfSize name.now h.0
cut-off (refusal.Lacking why) a s h = OfDefect why h.0
cut-off (refusal.WriteFault name) a s h = OfWrite name.now h.0

prints-starved :
    (why : Refusal) (a : Asked) (s : Stored) (k : Printed) → Refuses why a s
    → SaysPart k (message_of why) ⊎ SaysPart k memory_message → PrintsAt NoMemory a s k
prints-starved why a s k h said =
    elim said [ inl part ↦ (message_of why, cut-off why a s h, part) | inr part ↦ (memory_message, OfMemory, part) ]

prints-refused :
    (status : Status) (why : Refusal) (a : Asked) (s : Stored) (k : Printed) → Refuses why a s → PrintsRefusal status why k
    → PrintsAt status a s k
prints-refused status why a s k h reported =
    let P : Status → Type 0 = λ st. PrintsAt st a s k in
    elim reported [
      | inl is ↦ subst P (sym is.answer_is) (says-why why a s k h is.said)
      | inr is ↦ subst P (sym is.answer_is) (prints-starved why a s k h is.said)
    ]

prints-without :
    (status : Status) (why : Refusal) (k : Printed) → why ≡ refusal.Usage → PrintsRefusal status why k → PrintsWithout status k
prints-without status why k e reported =
    let P : Status → Type 0 = λ st. PrintsWithout st k in
    let Q : Refusal → Type 0 = λ w. Says k (message_of w) in
    let R : Refusal → Type 0 = λ w. SaysPart k (message_of w) ⊎ SaysPart k memory_message in
    elim reported [
      | inl is ↦ subst P (sym (is.answer_is ∙ ap status_of e)) (subst Q e is.said)
      | inr is ↦ subst P (sym is.answer_is) (subst R e is.said)
    ]

-- what the answer has printed
pub prints-of :
    (r : Result Printout Failure) (status : Status) (asked : Option Asked) (s : Stored) (k : Printed)
    → Attempts r asked s → Reports status r k → Prints status asked s k
prints-of (Ok text) status None s k tried reported = absurd tried
prints-of (Ok text) status (Some a) s k tried reported =
    let P : List ℕ → Type 0 = λ t. PrintsText status t k in
    prints-text status a s k (printout_text text) tried (subst P tried.text_is reported)
prints-of (Err (failure.Refused why)) status None s k tried reported = prints-without status why k tried.0 reported
prints-of (Err (failure.Refused why)) status (Some a) s k tried reported = prints-refused status why a s k tried reported
prints-of (Err failure.NoMemory) status None s k tried reported = absurd tried
prints-of (Err failure.NoMemory) status (Some a) s k tried reported =
    let P : Status → Type 0 = λ st. PrintsAt st a s k in
    subst P (sym reported.0) (memory_message, OfMemory, reported.1)

-- ---- what Done delivers

delivers-text :
    (status : Status) (a : Asked) (s : Stored) (k : Printed) (text : List ℕ) (is : IsCarriedOut a s text)
    → PrintsText status is.delivery.text k → DeliversAll status (Some a) s k
delivers-text Done a s k text is h = record { delivery = is.delivery; is = is.is; stored = is.stored; printed = h }
delivers-text Usage a s k text is h = tt
delivers-text ReadFault a s k text is h = tt
delivers-text TooLarge a s k text is h = tt
delivers-text BadSource a s k text is h = tt
delivers-text Differs a s k text is h = tt
delivers-text NoFrame a s k text is h = tt
delivers-text BadImage a s k text is h = tt
delivers-text BadLog a s k text is h = tt
delivers-text NoRoom a s k text is h = tt
delivers-text WriteFault a s k text is h = tt
delivers-text SinkFault a s k text is h = tt
delivers-text NoMemory a s k text is h = tt

delivers-defect : (why : Defect) (asked : Option Asked) (s : Stored) (k : Printed) → DeliversAll (defect_status why) asked s k
delivers-defect defect.NoFrame asked s k = tt
delivers-defect (defect.BadImage fault) asked s k = tt
delivers-defect (defect.BadLog line) asked s k = tt
delivers-defect (defect.BadSource line) asked s k = tt
delivers-defect (defect.Differs found) asked s k = tt
delivers-defect (defect.TooLarge size) asked s k = tt
delivers-defect (defect.NoRoom size) asked s k = tt

delivers-why : (why : Refusal) (asked : Option Asked) (s : Stored) (k : Printed) → DeliversAll (status_of why) asked s k
delivers-why refusal.Usage asked s k = tt
delivers-why (refusal.ReadFault name) asked s k = tt
delivers-why (refusal.TooLarge name) asked s k = tt
delivers-why (refusal.Lacking why) asked s k = delivers-defect why asked s k
delivers-why (refusal.WriteFault name) asked s k = tt

delivers-refused :
    (status : Status) (why : Refusal) (asked : Option Asked) (s : Stored) (k : Printed) → PrintsRefusal status why k
    → DeliversAll status asked s k
delivers-refused status why asked s k reported =
    let P : Status → Type 0 = λ st. DeliversAll st asked s k in
    elim reported [ inl is ↦ subst P (sym is.answer_is) (delivers-why why asked s k) | inr is ↦ subst P (sym is.answer_is) tt ]

-- what the answer delivers
pub delivers-of :
    (r : Result Printout Failure) (status : Status) (asked : Option Asked) (s : Stored) (k : Printed)
    → Attempts r asked s → Reports status r k → DeliversAll status asked s k
delivers-of (Ok text) status None s k tried reported = absurd tried
delivers-of (Ok text) status (Some a) s k tried reported =
    let P : List ℕ → Type 0 = λ t. PrintsText status t k in
    delivers-text status a s k (printout_text text) tried (subst P tried.text_is reported)
delivers-of (Err (failure.Refused why)) status asked s k tried reported = delivers-refused status why asked s k reported
delivers-of (Err failure.NoMemory) status asked s k tried reported =
    let P : Status → Type 0 = λ st. DeliversAll st asked s k in subst P (sym reported.0) tt
