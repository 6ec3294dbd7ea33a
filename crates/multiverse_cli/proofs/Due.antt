-- From when an answer comes, to which one has to come.
use Rattle.std.proofs.Common.{◌≡◌, ℕ, List, ◌∷◌, Option, Some, None, IsSomeAnd, IsTrue, sym, ◌∙◌, refl, subst, inl, inr}
use Rattle.std.specs.List.{Contains}
use Rattle.mv_base.specs.declared.status.Status.{Status}
use Rattle.mv_base.specs.declared.status.Status.TheVariants.{Done, Usage, ReadFault, WriteFault, BadImage, NoRoom, BadLog, NoMemory, SinkFault, TooLarge, BadSource, Differs, NoFrame}
use Rattle.multiverse_cli.specs.declared.refusal.Defect.{Defect}
use Rattle.multiverse_cli.specs.Commands.{Lacks, Delivers}
use Rattle.multiverse_cli.specs.Answers.{IsOversized, AreRead, IsUnwritten, IsLacking, IsNext, IsUnread, HasDelivery, LacksFor, Comes, ComesAt, ComesWithout, FirstDue, IsUnlessMemory, IsOwed, NoneUnread}
use Rattle.multiverse_cli.specs.Outside.{Stored, Printed, IsSinkFault, HasSinkFault}
use Rattle.multiverse_cli.specs.Texts.{defect_status}
use Rattle.multiverse_cli.specs.Words.{Asked}
use Rattle.multiverse_cli.proofs.Inputs.{first-next, next-among, read-held, large-held, held-missing, read-oversized, read-large, read-one}
use Rattle.multiverse_cli.proofs.Verdicts.{SpellsOne, one-defect, defect-clash}

module _ (one : SpellsOne) (a : Asked) (s : Stored) (k : Printed) (t : IsTrue s.tells) where
  -- ---- a name that isn't held

  module _ (name : List ℕ) (among : Contains a.reads name) (missing : s.before name ≡ None) where
    unheld : {A : Type 0} (files : List (List ℕ)) → AreRead s a.reads files → A
    unheld files read = absurd (held-missing s t a.reads name (read-held s a.reads files read) among missing)

    missing-lacks : (status : Status) → LacksFor status a s → IsUnlessMemory status ReadFault
    missing-lacks status h = unheld h.2.inputs h.2.read

    missing-due : (status : Status) → ComesAt status a s k → IsUnlessMemory status ReadFault
    missing-due Done h = unheld h.1.inputs h.1.read
    missing-due Usage h = absurd h
    missing-due ReadFault h = inl refl
    missing-due TooLarge h = elim h [
      | inl large ↦ absurd (held-missing s t a.reads name (large-held s a.reads large.0 large.1) among missing)
      | inr lacks ↦ missing-lacks TooLarge lacks
    ]
    missing-due BadSource h = missing-lacks BadSource h
    missing-due Differs h = missing-lacks Differs h
    missing-due NoFrame h = missing-lacks NoFrame h
    missing-due BadImage h = missing-lacks BadImage h
    missing-due BadLog h = missing-lacks BadLog h
    missing-due NoRoom h = missing-lacks NoRoom h
    missing-due WriteFault h = unheld h.1.1.inputs h.1.1.read
    missing-due SinkFault h = unheld h.1.1.inputs h.1.1.read
    missing-due NoMemory h = inr refl

  -- ---- a file that is too large

  module _ (name : List ℕ) (among : Contains a.reads name) (large : IsSomeAnd (s.before name) IsOversized) (all : NoneUnread a s) where
    unfit : {A : Type 0} (files : List (List ℕ)) → AreRead s a.reads files → A
    unfit files read = absurd (read-oversized s t a.reads files name read among large)

    oversized-lacks : (status : Status) → LacksFor status a s → IsUnlessMemory status TooLarge
    oversized-lacks status h = unfit h.2.inputs h.2.read

    oversized-due : (status : Status) → ComesAt status a s k → IsUnlessMemory status TooLarge
    oversized-due Done h = unfit h.1.inputs h.1.read
    oversized-due Usage h = absurd h
    oversized-due ReadFault h = absurd (all h.0 h.1)
    oversized-due TooLarge h = inl refl
    oversized-due BadSource h = oversized-lacks BadSource h
    oversized-due Differs h = oversized-lacks Differs h
    oversized-due NoFrame h = oversized-lacks NoFrame h
    oversized-due BadImage h = oversized-lacks BadImage h
    oversized-due BadLog h = oversized-lacks BadLog h
    oversized-due NoRoom h = oversized-lacks NoRoom h
    oversized-due WriteFault h = unfit h.1.1.inputs h.1.1.read
    oversized-due SinkFault h = unfit h.1.1.inputs h.1.1.read
    oversized-due NoMemory h = inr refl

  -- ---- files that lack something

  module _ (why : Defect) (lacking : IsLacking a s why) (all : NoneUnread a s) where
    -- the files of another verdict are these
    these : (files : List (List ℕ)) → AreRead s a.reads files → files ≡ lacking.inputs
    these files read = read-one s t a.reads files lacking.inputs read lacking.read

    lacking-delivers : {A : Type 0} → HasDelivery a s → A
    lacking-delivers h =
        let P : List (List ℕ) → Type 0 = λ files. Delivers a.work files h.0 in
        absurd (defect-clash one a.work lacking.inputs why h.0 lacking.lacks (subst P (these h.1.inputs h.1.read) h.1.delivers))

    lacking-lacks : (status : Status) → LacksFor status a s → IsUnlessMemory status (defect_status why)
    lacking-lacks status h =
        let P : List (List ℕ) → Type 0 = λ files. Lacks a.work files h.0 in
        inl (sym h.1 ∙ one-defect a.work lacking.inputs h.0 why (subst P (these h.2.inputs h.2.read) h.2.lacks) lacking.lacks)

    lacking-due : (status : Status) → ComesAt status a s k → IsUnlessMemory status (defect_status why)
    lacking-due Done h = lacking-delivers h
    lacking-due Usage h = absurd h
    lacking-due ReadFault h = absurd (all h.0 h.1)
    lacking-due TooLarge h = elim h [
      | inl large ↦ absurd (read-large s t a.reads lacking.inputs large.0 lacking.read large.1)
      | inr lacks ↦ lacking-lacks TooLarge lacks
    ]
    lacking-due BadSource h = lacking-lacks BadSource h
    lacking-due Differs h = lacking-lacks Differs h
    lacking-due NoFrame h = lacking-lacks NoFrame h
    lacking-due BadImage h = lacking-lacks BadImage h
    lacking-due BadLog h = lacking-lacks BadLog h
    lacking-due NoRoom h = lacking-lacks NoRoom h
    lacking-due WriteFault h = lacking-delivers h.1
    lacking-due SinkFault h = lacking-delivers h.1
    lacking-due NoMemory h = inr refl

  -- ---- files that lack nothing

  module _
      (files : List (List ℕ)) (read : AreRead s a.reads files) (whole : (why : Defect) → ¬ Lacks a.work files why) (all : NoneUnread a s)
      (written : (name : List ℕ) → ¬ IsUnwritten a s name) (printed : ¬ IsSinkFault k) where
    complete-lacks : (status : Status) → LacksFor status a s → IsUnlessMemory status Done
    complete-lacks status h =
        let P : List (List ℕ) → Type 0 = λ fs. Lacks a.work fs h.0 in
        absurd (whole h.0 (subst P (read-one s t a.reads h.2.inputs files h.2.read read) h.2.lacks))

    complete-due : (status : Status) → ComesAt status a s k → IsUnlessMemory status Done
    complete-due Done h = inl refl
    complete-due Usage h = absurd h
    complete-due ReadFault h = absurd (all h.0 h.1)
    complete-due TooLarge h = elim h [
      | inl large ↦ absurd (read-large s t a.reads files large.0 read large.1)
      | inr lacks ↦ complete-lacks TooLarge lacks
    ]
    complete-due BadSource h = complete-lacks BadSource h
    complete-due Differs h = complete-lacks Differs h
    complete-due NoFrame h = complete-lacks NoFrame h
    complete-due BadImage h = complete-lacks BadImage h
    complete-due BadLog h = complete-lacks BadLog h
    complete-due NoRoom h = complete-lacks NoRoom h
    complete-due WriteFault h = absurd (written h.0.0 h.0.1)
    complete-due SinkFault h = absurd (printed h.0)
    complete-due NoMemory h = inr refl

  -- ---- files that lack nothing, and a sink that failed

  module _
      (files : List (List ℕ)) (read : AreRead s a.reads files) (whole : (why : Defect) → ¬ Lacks a.work files why) (all : NoneUnread a s)
      (written : (name : List ℕ) → ¬ IsUnwritten a s name) (printed : HasSinkFault k) where
    unprinted-lacks : (status : Status) → LacksFor status a s → IsUnlessMemory status SinkFault
    unprinted-lacks status h =
        let P : List (List ℕ) → Type 0 = λ fs. Lacks a.work fs h.0 in
        absurd (whole h.0 (subst P (read-one s t a.reads h.2.inputs files h.2.read read) h.2.lacks))

    unprinted-due : (status : Status) → ComesAt status a s k → (status ≡ Done → ⊥) → IsUnlessMemory status SinkFault
    unprinted-due Done h owed = absurd (owed refl)
    unprinted-due Usage h owed = absurd h
    unprinted-due ReadFault h owed = absurd (all h.0 h.1)
    unprinted-due TooLarge h owed = elim h [
      | inl large ↦ absurd (read-large s t a.reads files large.0 read large.1)
      | inr lacks ↦ unprinted-lacks TooLarge lacks
    ]
    unprinted-due BadSource h owed = unprinted-lacks BadSource h
    unprinted-due Differs h owed = unprinted-lacks Differs h
    unprinted-due NoFrame h owed = unprinted-lacks NoFrame h
    unprinted-due BadImage h owed = unprinted-lacks BadImage h
    unprinted-due BadLog h owed = unprinted-lacks BadLog h
    unprinted-due NoRoom h owed = unprinted-lacks NoRoom h
    unprinted-due WriteFault h owed = absurd (written h.0.0 h.0.1)
    unprinted-due SinkFault h owed = inl refl
    unprinted-due NoMemory h owed = inr refl

usage-due : (status : Status) → ComesWithout status → IsUnlessMemory status Usage
usage-due Done h = absurd h
usage-due Usage h = inl refl
usage-due ReadFault h = absurd h
usage-due TooLarge h = absurd h
usage-due BadSource h = absurd h
usage-due Differs h = absurd h
usage-due NoFrame h = absurd h
usage-due BadImage h = absurd h
usage-due BadLog h = absurd h
usage-due NoRoom h = absurd h
usage-due WriteFault h = absurd h
usage-due SinkFault h = absurd h
usage-due NoMemory h = inr refl

-- which answer has to come
pub due-of :
    SpellsOne → (status : Status) (asked : Option Asked) (s : Stored) (k : Printed) → Comes status asked s k → IsOwed status s k
    → FirstDue status asked s k
due-of one status None s k h owed = usage-due status h
due-of one status (Some a) s k h owed =
    λ t. record {
      missing = λ name among missing. missing-due one a s k t name among missing status h;
      oversized = λ name among large all. oversized-due one a s k t name among large all status h;
      lacking = λ why lacking all. lacking-due one a s k t why lacking all status h;
      complete = λ files read whole all written printed. complete-due one a s k t files read whole all written printed status h;
      unprinted = λ files read whole all written printed. unprinted-due one a s k t files read whole all written printed status h (owed.printing printed);
    }

-- a read that failed at a name that the command doesn't read is no reason to answer ReadFault
pub foreign-read : (a : Asked) (s : Stored) (k : Printed) → ¬ Contains a.reads s.failed → Comes ReadFault (Some a) s k → ⊥
foreign-read a s k other h =
    let P : List ℕ → Type 0 = λ name. Contains a.reads name in
    other (subst P (sym h.1.fault.failed) (next-among s a.reads h.0 h.1.next))

-- where the first file isn't held, it is the one that could not be read
pub first-unread :
    (a : Asked) (s : Stored) (first name : List ℕ) (rest : List (List ℕ)) → IsTrue s.tells → a.reads ≡ first ∷ rest
    → s.before first ≡ None → IsUnread a s name → name ≡ first
first-unread a s first name rest t reads missing h =
    let P : List (List ℕ) → Type 0 = λ names. IsNext s names name in
    first-next s t (first ∷ rest) first name rest refl missing (subst P reads h.next)
