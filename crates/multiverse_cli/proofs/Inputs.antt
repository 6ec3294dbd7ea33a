-- What is known of the files that a command reads, where the store tells.
use Rattle.std.proofs.Common.{◌≡◌, ℕ, zero, suc, ◌<◌, List, [], ◌∷◌, ◌++◌, length, Option, Some, None, IsSomeAnd, IsTrue, refl, sym, ◌∙◌, ap, subst, arith}
use Rattle.std.specs.List.{Contains}
use Rattle.std.specs.Prelude.{slice_index_or}
use Rattle.std.proofs.lemmas.Option.{same_Some}
use Rattle.multiverse_cli.specs.Answers.{Fits, IsOversized, AreRead, AllHeld, IsFirstOversized, Here, Later, IsNext, First, After}
use Rattle.multiverse_cli.specs.Outside.{Stored, Held, HeldAs}
use Rattle.multiverse_cli.specs.Verdicts.{AllFit}

-- two facts that cannot both be so of one value
pub clash :
    (o : Option (List ℕ)) (P Q : List ℕ → Type 0) → ((b : List ℕ) → P b → Q b → ⊥) → IsSomeAnd o P → IsSomeAnd o Q → ⊥
clash None P Q never p q = p
clash (Some b) P Q never p q = never b p q

-- nothing is so of a value that isn't there
nothing : (o : Option (List ℕ)) (P : List ℕ → Type 0) → o ≡ None → IsSomeAnd o P → ⊥
nothing o P e h = let Q : Option (List ℕ) → Type 0 = λ v. IsSomeAnd v P in subst Q e h

-- what is so of a value that is there
present : (o : Option (List ℕ)) (P : List ℕ → Type 0) (b : List ℕ) → o ≡ Some b → P b → IsSomeAnd o P
present o P b e h = let Q : Option (List ℕ) → Type 0 = λ v. IsSomeAnd v P in subst Q (sym e) h

abbrev head-or : List ℕ → List (List ℕ) → List ℕ
head-or other [] = other
head-or other (n ∷ ns) = n

anything : (o : Option (List ℕ)) (P : List ℕ → Type 0) → IsSomeAnd o P → IsSomeAnd o (λ b. Unit {0})
anything None P h = h
anything (Some b) P h = tt

oversized-fits : (b : List ℕ) → IsOversized b → Fits b → ⊥
oversized-fits b above below = omega arith

module _ (s : Stored) where
  held-as : (n b : List ℕ) (P : List ℕ → Type 0) → Held s n b → P b → HeldAs s n P
  held-as n b P held h t = present (s.before n) P b (held t) h

  pub some-held : (n : List ℕ) (P : List ℕ → Type 0) → HeldAs s n P → HeldAs s n (λ b. Unit {0})
  some-held n P h t = anything (s.before n) P (h t)

  pub held-some : (n b : List ℕ) → Held s n b → HeldAs s n (λ b. Unit {0})
  held-some n b held = held-as n b (λ _. Unit {0}) held tt

  pub read-held : (ns bs : List (List ℕ)) → AreRead s ns bs → AllHeld s ns
  read-held [] [] h = tt
  read-held [] (b ∷ bs) h = absurd h
  read-held (n ∷ ns) [] h = absurd h
  read-held (n ∷ ns) (b ∷ bs) h = (held-some n b h.0, read-held ns bs h.2)

  pub large-held : (ns : List (List ℕ)) (m : List ℕ) → IsFirstOversized s ns m → AllHeld s ns
  large-held _ _ (Here n ns h rest) = (some-held n IsOversized h, rest)
  large-held _ _ (Later n ns m fits rest) = (some-held n Fits fits, large-held ns m rest)

  pub read-count : (ns bs : List (List ℕ)) → AreRead s ns bs → length bs ≡ length ns
  read-count [] [] h = refl
  read-count [] (b ∷ bs) h = absurd h
  read-count (n ∷ ns) [] h = absurd h
  read-count (n ∷ ns) (b ∷ bs) h = let rest = read-count ns bs h.2 in omega arith

  pub read-fit : (ns bs : List (List ℕ)) → AreRead s ns bs → AllFit bs
  read-fit [] [] h = tt
  read-fit [] (b ∷ bs) h = absurd h
  read-fit (n ∷ ns) [] h = absurd h
  read-fit (n ∷ ns) (b ∷ bs) h = (h.1, read-fit ns bs h.2)

  -- a name behind some that are held is the next
  pub next-behind : (ns : List (List ℕ)) (n : List ℕ) (rest : List (List ℕ)) → AllHeld s ns → IsNext s (ns ++ n ∷ rest) n
  next-behind [] n rest h = First n rest
  next-behind (m ∷ ns) n rest h = After m (ns ++ n ∷ rest) n h.0 (next-behind ns n rest h.1)

  -- and one of them
  pub next-among : (ns : List (List ℕ)) (m : List ℕ) → IsNext s ns m → Contains ns m
  next-among _ _ (First n ns) = (0, omega arith, refl)
  next-among _ _ (After n ns m held h) = let rest = next-among ns m h in (suc rest.0, omega (arith, rest.1), rest.2)

  -- ---- one name more

  pub read-more :
      (ns bs : List (List ℕ)) (n b : List ℕ) → AreRead s ns bs → Held s n b → Fits b
      → AreRead s (ns ++ n ∷ []) (bs ++ b ∷ [])
  read-more [] [] n b h held fits = (held, fits, tt)
  read-more [] (c ∷ bs) n b h held fits = absurd h
  read-more (m ∷ ns) [] n b h held fits = absurd h
  read-more (m ∷ ns) (c ∷ bs) n b h held fits = (h.0, h.1, read-more ns bs n b h.2 held fits)

  pub large-now :
      (ns bs : List (List ℕ)) (n : List ℕ) → AreRead s ns bs → HeldAs s n IsOversized → IsFirstOversized s (ns ++ n ∷ []) n
  large-now [] [] n h large = Here n [] large tt
  large-now [] (c ∷ bs) n h large = absurd h
  large-now (m ∷ ns) [] n h large = absurd h
  large-now (m ∷ ns) (c ∷ bs) n h large = Later m (ns ++ n ∷ []) n (held-as m c Fits h.0 h.1) (large-now ns bs n h.2 large)

  held-more : (ns : List (List ℕ)) (n : List ℕ) → AllHeld s ns → HeldAs s n (λ b. Unit {0}) → AllHeld s (ns ++ n ∷ [])
  held-more [] n h held = (held, tt)
  held-more (m ∷ ns) n h held = (h.0, held-more ns n h.1 held)

  pub large-more :
      (ns : List (List ℕ)) (m n : List ℕ) → IsFirstOversized s ns m → HeldAs s n (λ b. Unit {0})
      → IsFirstOversized s (ns ++ n ∷ []) m
  large-more _ _ n (Here m ns h rest) held = Here m (ns ++ n ∷ []) h (held-more ns n rest held)
  large-more _ _ n (Later l ns m fits rest) held = Later l (ns ++ n ∷ []) m fits (large-more ns m n rest held)

  -- ---- where the store tells

  module _ (t : IsTrue s.tells) where
    -- a name that is held holds something
    pub held-missing : (ns : List (List ℕ)) (name : List ℕ) → AllHeld s ns → Contains ns name → s.before name ≡ None → ⊥
    held-missing [] name h c e = let below = c.1 in absurd (omega arith)
    held-missing (n ∷ ns) name h c e = go c.0 c.1 c.2 (λ d. held-missing ns name h.1 d e)
      where
        go : (k : ℕ) → k < length (n ∷ ns) → slice_index_or (n ∷ ns) k name ≡ name → (Contains ns name → ⊥) → ⊥
        go zero l q rest = nothing (s.before n) (λ b. Unit {0}) (ap s.before q ∙ e) (h.0 t)
        go (suc k) l q rest = rest (k, omega arith, q)

    -- the next is the first, where that isn't held
    pub first-next :
        (ns : List (List ℕ)) (first name : List ℕ) (rest : List (List ℕ)) → ns ≡ first ∷ rest → s.before first ≡ None
        → IsNext s ns name → name ≡ first
    first-next _ first _ rest e missing (First n ns) = ap (head-or first) e
    first-next _ first _ rest e missing (After n ns m held h) =
        absurd (nothing (s.before n) (λ b. Unit {0}) (ap (λ l. s.before (head-or first l)) e ∙ missing) (held t))

    -- what is read has not too many bytes
    pub read-oversized :
        (ns bs : List (List ℕ)) (name : List ℕ) → AreRead s ns bs → Contains ns name
        → IsSomeAnd (s.before name) IsOversized → ⊥
    read-oversized [] [] name h c large = let below = c.1 in absurd (omega arith)
    read-oversized [] (b ∷ bs) name h c large = h
    read-oversized (n ∷ ns) [] name h c large = h
    read-oversized (n ∷ ns) (b ∷ bs) name h c large = go c.0 c.1 c.2 (λ d. read-oversized ns bs name h.2 d large)
      where
        go : (k : ℕ) → k < length (n ∷ ns) → slice_index_or (n ∷ ns) k name ≡ name → (Contains ns name → ⊥) → ⊥
        go zero l q rest =
            let P : List ℕ → Type 0 = λ m. IsSomeAnd (s.before m) IsOversized in
            clash (s.before n) IsOversized Fits oversized-fits (subst P (sym q) large) (held-as n b Fits h.0 h.1 t)
        go (suc k) l q rest = rest (k, omega arith, q)

    pub read-large : (ns bs : List (List ℕ)) (m : List ℕ) → AreRead s ns bs → IsFirstOversized s ns m → ⊥
    read-large _ [] _ h (Here n ns large rest) = h
    read-large _ (b ∷ bs) _ h (Here n ns large rest) =
        clash (s.before n) IsOversized Fits oversized-fits (large t) (held-as n b Fits h.0 h.1 t)
    read-large _ [] _ h (Later n ns m fits rest) = h
    read-large _ (b ∷ bs) _ h (Later n ns m fits rest) = read-large ns bs m h.2 rest

    -- the bytes are the ones that are held
    pub read-one : (ns bs cs : List (List ℕ)) → AreRead s ns bs → AreRead s ns cs → bs ≡ cs
    read-one [] [] [] h k = refl
    read-one [] [] (c ∷ cs) h k = absurd k
    read-one [] (b ∷ bs) cs h k = absurd h
    read-one (n ∷ ns) [] cs h k = absurd h
    read-one (n ∷ ns) (b ∷ bs) [] h k = absurd k
    read-one (n ∷ ns) (b ∷ bs) (c ∷ cs) h k =
        let first : b ≡ c = same_Some b c (sym (h.0 t) ∙ k.0 t) in
        let rest = read-one ns bs cs h.2 k.2 in
        cc

-- what is read in a part of a call is read in the call
pub read-whole :
    (w s : Stored) (ns bs : List (List ℕ)) → w.tells ≡ s.tells → w.before ≡ s.before → AreRead w ns bs → AreRead s ns bs
read-whole w s [] [] tells before h = tt
read-whole w s [] (b ∷ bs) tells before h = absurd h
read-whole w s (n ∷ ns) [] tells before h = absurd h
read-whole w s (n ∷ ns) (b ∷ bs) tells before h =
    (λ t. ap (λ f. f n) (sym before) ∙ h.0 (tells ∙ t), h.1, read-whole w s ns bs tells before h.2)
