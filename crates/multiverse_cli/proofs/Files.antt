-- From the reads of one file after the other, to the read of all.
use Rattle.std.proofs.Common.{◌≡◌, ℕ, ◌+◌, ◌<◌, ◌≤◌, List, [], ◌∷◌, ◌++◌, length, take, drop, get_or, Option, Some, None, Result, Ok, Err, IsSomeAnd, IsErrAnd, Vec, Global, String, string_bytes, sym, ◌∙◌, ap, subst, arith}
use Rattle.std.specs.Borrow.{Bor}
use Rattle.std.specs.Option.{option_or}
use Rattle.std.proofs.lemmas.List.{map_more, map-append, take-append-drop, drop_more}
use Rattle.multiverse_cli.specs.declared.failure.Failure.{Failure}
use Rattle.multiverse_cli.specs.declared.failure.Failure.TheVariants as failure
use Rattle.multiverse_cli.specs.declared.refusal.Refusal.TheVariants as refusal
use Rattle.multiverse_cli.specs.Answers.{Fits, IsOversized, AllHeld, IsFirstOversized, Here, Later, IsNext}
use Rattle.multiverse_cli.specs.Outside.{Stored, Held, HeldAs}
use Rattle.multiverse_cli.specs.Steps.{AreReadSoFar, ReadsFile, ReadsFiles}
use Rattle.multiverse_cli.specs.Words.{texts}
use Rattle.multiverse_cli.proofs.Inputs.{some-held, held-some, read-held, large-held, read-more, large-now, large-more, next-behind}

-- ---- names

module _ (names : List (String Global)) (i : ℕ) (item : String Global) (n : List ℕ) (below : i < length names) (is : item ≡ get_or names i item) (named : n ≡ string_bytes item) where
  this : string_bytes (get_or names i item) ≡ n
  this = ap string_bytes (sym is) ∙ sym named

  pub one-more : texts (take (i + 1) names) ≡ texts (take i names) ++ n ∷ []
  one-more = map_more string_bytes names i item below ∙ ap (λ m. texts (take i names) ++ m ∷ []) this

  split : texts names ≡ texts (take i names) ++ n ∷ texts (drop (i + 1) names)
  split =
      ap texts (sym (take-append-drop i names))
      ∙ map-append string_bytes (take i names) (drop i names)
      ∙ ap (λ ns. texts (take i names) ++ texts ns) (drop_more names i item below)
      ∙ ap (λ m. texts (take i names) ++ m ∷ texts (drop (i + 1) names)) this

  -- the name is the next to be read, where all before it are held
  pub next-name : (s : Stored) → AllHeld s (texts (take i names)) → IsNext s (texts names) n
  next-name s held =
      let P : List (List ℕ) → Type 0 = λ ns. IsNext s ns n in
      subst P (sym split) (next-behind s (texts (take i names)) n (texts (drop (i + 1) names)) held)

-- ---- a read within a longer call

-- a step of a longer call, before which nothing but counts has changed
pub record IsLaterRead (w s : Stored) : Type 0 where
  pub tells : w.tells ≡ s.tells
  pub before : w.before ≡ s.before
  pub reads_before : s.reads_before ≤ w.reads_before

held-whole : (w s : Stored) (n b : List ℕ) → IsLaterRead w s → Held w n b → Held s n b
held-whole w s n b later h t = ap (λ f. f n) (sym later.before) ∙ h (later.tells ∙ t)

held-as-whole : (w s : Stored) (n : List ℕ) (P : List ℕ → Type 0) → IsLaterRead w s → HeldAs w n P → HeldAs s n P
held-as-whole w s n P later h t =
    let Q : (List ℕ → Option (List ℕ)) → Type 0 = λ f. IsSomeAnd (f n) P in
    subst Q later.before (h (later.tells ∙ t))

all-held-whole : (w s : Stored) (names : List (List ℕ)) → IsLaterRead w s → AllHeld w names → AllHeld s names
all-held-whole w s [] later h = tt
all-held-whole w s (n ∷ names) later h =
    (held-as-whole w s n (λ b. Unit {0}) later h.0, all-held-whole w s names later h.1)

-- the names that were read so far are held
pub so-far-held :
    (o : Option (Bor (List ℕ))) (w s : Stored) (names files : List (List ℕ)) → IsLaterRead w s
    → AreReadSoFar o w names files → AllHeld s names
so-far-held None w s names files later h = all-held-whole w s names later (read-held w names files h)
so-far-held (Some m) w s names files later h = all-held-whole w s names later (large-held w names m.now h)

-- a file more was read
pub read-also :
    (o : Option (Bor (List ℕ))) (w s : Stored) (names files : List (List ℕ)) (n b : List ℕ) → IsLaterRead w s
    → AreReadSoFar o s names files → Held w n b × Fits b → AreReadSoFar o s (names ++ n ∷ []) (files ++ b ∷ [])
read-also None w s names files n b later h got = read-more s names files n b h (held-whole w s n b later got.0) got.1
read-also (Some m) w s names files n b later h got =
    large-more s names m.now n h (held-some s n b (held-whole w s n b later got.0))

-- a file more is too large
pub large-also :
    (o : Option (Bor (List ℕ))) (w s : Stored) (names files : List (List ℕ)) (n : List ℕ) (m : Bor (List ℕ))
    → IsLaterRead w s → AreReadSoFar o s names files → HeldAs w n IsOversized → m.now ≡ n
    → AreReadSoFar (option_or o (Some m)) s (names ++ n ∷ []) files
large-also None w s names files n m later h large named =
    let P : List ℕ → Type 0 = λ l. IsFirstOversized s (names ++ n ∷ []) l in
    subst P (sym named) (large-now s names files n h (held-as-whole w s n IsOversized later large))
large-also (Some l) w s names files n m later h large named =
    large-more s names l.now n h (some-held s n IsOversized (held-as-whole w s n IsOversized later large))

-- the same in other words
pub so-far-same :
    (o o' : Option (Bor (List ℕ))) (s : Stored) (names names' files files' : List (List ℕ)) → o' ≡ o → names' ≡ names
    → files' ≡ files → AreReadSoFar o s names files → AreReadSoFar o' s names' files'
so-far-same o o' s names names' files files' oe ne fe h =
    let P : Option (Bor (List ℕ)) → Type 0 = λ x. AreReadSoFar x s names' files' in
    let Q : List (List ℕ) → Type 0 = λ x. AreReadSoFar o s x files' in
    let R : List (List ℕ) → Type 0 = λ x. AreReadSoFar o s names x in
    subst P (sym oe) (subst Q (sym ne) (subst R (sym fe) h))

-- a file that was not read
pub unread :
    (e : Failure) (w s : Stored) (names : List (List ℕ)) (n : List ℕ) → IsLaterRead w s → s.reads_after ≡ w.reads_after
    → s.failed ≡ w.failed → IsNext s names n → ReadsFile (Err e) n w → ReadsFiles (Err e) names s
unread failure.NoMemory w s names n later after failed has h = tt
unread (failure.Refused refusal.Usage) w s names n later after failed has h = absurd h
unread (failure.Refused (refusal.ReadFault m)) w s names n later after failed has h =
    let P : List ℕ → Type 0 = λ l. IsNext s names l in (
      subst P (sym h.0) has,
      record {
        rose = λ below. let up = h.1.rose (λ e. below (after ∙ e)) in let first = later.reads_before in omega arith;
        failed = failed ∙ h.1.failed ∙ sym h.0;
      },
    )
unread (failure.Refused (refusal.TooLarge m)) w s names n later after failed has h = absurd h
unread (failure.Refused (refusal.Lacking why)) w s names n later after failed has h = absurd h
unread (failure.Refused (refusal.WriteFault m)) w s names n later after failed has h = absurd h

-- an error that was passed on
pub passes-read :
    (r : Result (Vec (List ℕ) Global) Failure) (e : Failure) (names : List (List ℕ)) (s : Stored)
    → IsErrAnd r (λ f. f ≡ e) → ReadsFiles (Err e) names s → ReadsFiles r names s
passes-read (Ok files) e names s is h = absurd is
passes-read (Err f) e names s is h =
    let P : Failure → Type 0 = λ g. ReadsFiles (Err g) names s in subst P (sym is) h

first-whole :
    (w s : Stored) (names : List (List ℕ)) (m : List ℕ) → IsLaterRead w s → IsFirstOversized w names m
    → IsFirstOversized s names m
first-whole w s _ _ later (Here n names large rest) =
    Here n names (held-as-whole w s n IsOversized later large) (all-held-whole w s names later rest)
first-whole w s _ _ later (Later n names m fits rest) =
    Later n names m (held-as-whole w s n Fits later fits) (first-whole w s names m later rest)

-- the first file that is too large, of all
pub first-large :
    (o : Option (Bor (List ℕ))) (m : Bor (List ℕ)) (w s : Stored) (names all files : List (List ℕ)) → IsLaterRead w s
    → o ≡ Some m → names ≡ all → AreReadSoFar o w names files → IsFirstOversized s all m.now
first-large o m w s names all files later oe ne h =
    let P : Option (Bor (List ℕ)) → Type 0 = λ x. AreReadSoFar x w names files in
    let Q : List (List ℕ) → Type 0 = λ x. IsFirstOversized s x m.now in
    subst Q ne (first-whole w s names m.now later (subst P oe h))
