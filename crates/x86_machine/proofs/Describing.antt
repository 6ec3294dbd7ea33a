-- Descriptors by the place of an index.
use Rattle.std.proofs.Common.{◌≡◌, ℕ, zero, suc, ◌<◌, ◌≤◌, Bool, true, false, ◌==◌, List, [], ◌∷◌, ◌++◌, length, get_or, set, position, Option, Some, None, if◌then◌else◌, refl, sym, ap, ◌∙◌, subst, arith}
use Rattle.std.specs.List.{position_or_len}
use Rattle.std.proofs.lemmas.Grind.{common_steps}
use Rattle.std.proofs.lemmas.List.Quantifiers.{position-Some}
use Rattle.std.proofs.lemmas.List.Sums.{fails_before_first}
use Rattle.mv_base.specs.Effects.{Descs, base_at, with_base}

module _ (index : ℕ) where
  abbrev is_here : ℕ × ℕ → Bool
  is_here d = d.0 == index

  -- the first place of an index
  base-first : (ds : Descs) (k : ℕ) (d : ℕ × ℕ) → k < length ds → is_here (get_or ds k d) ≡ true → ((j : ℕ) → j < k → is_here (get_or ds j d) ≡ false) → base_at ds index ≡ Some (get_or ds k d).1
  base-first [] k d below here before = absurd (omega arith)
  base-first (x ∷ ds) zero d below here before = ap (λ b. if b then Some x.1 else base_at ds index) here
  base-first (x ∷ ds) (suc k) d below here before =
      ap (λ b. if b then Some x.1 else base_at ds index) (before zero (omega arith))
      ∙ base-first ds k d (omega arith) here (λ j l. before (suc j) (omega arith))

  with-first : (ds : Descs) (base k : ℕ) (d : ℕ × ℕ) → k < length ds → is_here (get_or ds k d) ≡ true → ((j : ℕ) → j < k → is_here (get_or ds j d) ≡ false) → with_base ds index base ≡ set ds k (index, base)
  with-first [] base k d below here before = absurd (omega arith)
  with-first (x ∷ ds) base zero d below here before = ap (λ b. if b then (index, base) ∷ ds else x ∷ with_base ds index base) here
  with-first (x ∷ ds) base (suc k) d below here before =
      ap (λ b. if b then (index, base) ∷ ds else x ∷ with_base ds index base) (before zero (omega arith))
      ∙ ap (λ (rest : Descs). x ∷ rest) (with-first ds base k d (omega arith) here (λ j l. before (suc j) (omega arith)))

  -- an index that is nowhere
  base-none : (ds : Descs) (d : ℕ × ℕ) → ((j : ℕ) → j < length ds → is_here (get_or ds j d) ≡ false) → base_at ds index ≡ None
  base-none [] d none = refl
  base-none (x ∷ ds) d none = ap (λ b. if b then Some x.1 else base_at ds index) (none zero (omega arith)) ∙ base-none ds d (λ j l. none (suc j) (omega arith))

  with-none : (ds : Descs) (base : ℕ) (d : ℕ × ℕ) → ((j : ℕ) → j < length ds → is_here (get_or ds j d) ≡ false) → with_base ds index base ≡ ds ++ (index, base) ∷ []
  with-none [] base d none = refl
  with-none (x ∷ ds) base d none =
      ap (λ b. if b then (index, base) ∷ ds else x ∷ with_base ds index base) (none zero (omega arith))
      ∙ ap (λ (rest : Descs). x ∷ rest) (with-none ds base d (λ j l. none (suc j) (omega arith)))

  nowhere : (ds : Descs) (d : ℕ × ℕ) → position (λ x. x.0 == index) ds ≡ None → (j : ℕ) → j < length ds → is_here (get_or ds j d) ≡ false
  nowhere ds d none j below =
      let far : length ds ≤ position_or_len (λ x. x.0 == index) ds = grind (arith, common_steps) in
      fails_before_first (λ x. x.0 == index) ds j d (omega arith)

  -- by what position gives
  pub base-there : (ds : Descs) (k : ℕ) (d : ℕ × ℕ) → position (λ x. x.0 == index) ds ≡ Some k → base_at ds index ≡ Some (get_or ds k d).1
  base-there ds k d there = let w = position-Some (λ x. x.0 == index) ds k d there in base-first ds k d w.0 w.1 w.2

  pub with-there : (ds : Descs) (base k : ℕ) → position (λ x. x.0 == index) ds ≡ Some k → with_base ds index base ≡ set ds k (index, base)
  with-there ds base k there = let w = position-Some (λ x. x.0 == index) ds k (0, 0) there in with-first ds base k (0, 0) w.0 w.1 w.2

  pub base-absent : (ds : Descs) → position (λ x. x.0 == index) ds ≡ None → base_at ds index ≡ None
  base-absent ds none = base-none ds (0, 0) (nowhere ds (0, 0) none)

  pub with-absent : (ds : Descs) (base : ℕ) → position (λ x. x.0 == index) ds ≡ None → with_base ds index base ≡ ds ++ (index, base) ∷ []
  with-absent ds base none = with-none ds base (0, 0) (nowhere ds (0, 0) none)
