-- An array that takes a list's elements one by one.
use Rattle.std.proofs.Common.{◌≡◌, ℕ, zero, suc, ◌+◌, ◌<◌, List, [], ◌∷◌, ◌++◌, length, take, Some, sym, ap, ◌∙◌, arith}
use Rattle.std.specs.List.{slice_get}
use Rattle.std.proofs.Math.ListN.{set}
use Rattle.std.proofs.lemmas.List.{take_more_set}
use Rattle.mv_base.specs.declared.range.RunPlace.{RunPlace}

taken_next : (rs : List RunPlace) (i : ℕ) (r : RunPlace) → slice_get rs i ≡ Some r → take (suc i) rs ≡ take i rs ++ r ∷ []
taken_next [] i r h = absurd (cc h)
taken_next (q ∷ rs) zero r h = let e : q ≡ r = cc h in ap (λ (s : RunPlace). s ∷ []) e
taken_next (q ∷ rs) (suc i) r h = ap (λ (ss : List RunPlace). q ∷ ss) (taken_next rs i r h)

pub put_next : (array rs : List RunPlace) (i : ℕ) (r : RunPlace) → take i array ≡ take i rs → i < length array → slice_get rs i ≡ Some r → take (i + 1) (set array i r) ≡ take (i + 1) rs
put_next array rs i r same lt h = take_more_set array i r lt ∙ (ap (λ (ss : List RunPlace). ss ++ r ∷ []) same ∙ sym (ap (λ (n : ℕ). take n rs) (let e : i + 1 ≡ suc i = omega arith in e) ∙ taken_next rs i r h))
