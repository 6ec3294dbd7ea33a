-- What is read from a list is what a rule keeps.
use Rattle.std.proofs.Common.{◌≡◌, List, ℕ, Option, None, Some, option_map, refl, ap}
use Rattle.std.specs.Prelude.{IsSomeAnd, MatchOption, is_some}

pub is_some-map : {A B : Type 0} (f : A → B) (o : Option A) → is_some (option_map f o) ≡ is_some o
is_some-map f None = refl
is_some-map f (Some x) = refl

pub mapped : {A : Type 0} (f : List ℕ → A) (o : Option (List ℕ)) (r : Option A) → MatchOption o (r ≡ None) (λ x. IsSomeAnd r (λ y. y ≡ f x)) → r ≡ option_map f o
mapped f None r h = h
mapped f (Some x) None h = absurd h
mapped f (Some x) (Some y) h = ap Some h
