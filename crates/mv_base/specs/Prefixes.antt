-- What stands behind a prefix.
use Rattle.std.proofs.Common.{◌≡◌, ◌≢◌, ℕ, Bool, true, false, cond, eqb, List, [], ◌∷◌, ◌++◌, Option, Some, None, refl, ap, ◌∙◌, rules}
use Rattle.std.proofs.lemmas.Bool.{eqb-true, eq-eqb}
use Rattle.std.proofs.lemmas.Option.{none-some}
use Rattle.mv_base.specs.Reading.{behind}

cond-takes : (b : Bool) (o : Option (List ℕ)) (r : List ℕ) → cond b o None ≡ Some r → (b ≡ true) × (o ≡ Some r)
cond-takes true o r h = (refl, h)
cond-takes false o r h = absurd (none-some r h)

-- what is found behind a prefix stands behind it
pub behind-takes : (prefix text rest : List ℕ) → behind prefix text ≡ Some rest → text ≡ prefix ++ rest
unfolding behind
behind-takes [] text rest h = search rules
behind-takes (c ∷ prefix) [] rest h = absurd (none-some rest h)
behind-takes (c ∷ prefix) (x ∷ text) rest h =
    let k = cond-takes (eqb x c) (behind prefix text) rest h in
    let e : x ≡ c = eqb-true x c k.0 in
    let i = behind-takes prefix text rest k.1 in cc

-- what stands behind a prefix is found
pub behind-again : (prefix rest : List ℕ) → behind prefix (prefix ++ rest) ≡ Some rest
unfolding behind
behind-again [] rest = refl
behind-again (c ∷ prefix) rest = ap (λ b. cond b (behind prefix (prefix ++ rest)) None) (eq-eqb c c refl) ∙ behind-again prefix rest

-- nothing is found where the text does not begin with the prefix
pub behind-none : (prefix text : List ℕ) → ((rest : List ℕ) → text ≢ prefix ++ rest) → behind prefix text ≡ None
behind-none prefix text differs = none_of (behind prefix text) (λ rest e. differs rest (behind-takes prefix text rest e)) where
  none_of : (o : Option (List ℕ)) → ((rest : List ℕ) → o ≢ Some rest) → o ≡ None
  none_of None never = refl
  none_of (Some rest) never = absurd (never rest refl)
