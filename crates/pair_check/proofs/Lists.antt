-- Lists that grow by one.
use Rattle.std.proofs.Common.{◌≡◌, ℕ, zero, suc, ◌+◌, [], ◌∷◌, ◌++◌, List, take, map, Some, sym, ap, ◌∙◌, arith}
use Rattle.std.specs.List.{slice_get, range_with_len}
use Rattle.std.proofs.lemmas.List.{map-append}
use Rattle.superset.specs.RunBytes.{range_more}
use Rattle.elf32_write.specs.Frame.{Frame, pair_at}

pub map_next : (f : Frame) (n : ℕ) (q : ℕ × ℕ) (now new : List (ℕ × ℕ)) → now ≡ map (pair_at f) (range_with_len 0 n) → new ≡ now ++ q ∷ [] → q ≡ pair_at f n → new ≡ map (pair_at f) (range_with_len 0 (n + 1))
map_next f n q now new h p e =
    let at : pair_at f n ≡ pair_at f (0 + n) = ap (pair_at f) (let z : n ≡ 0 + n = omega arith in z) in
    p ∙ ((λ i. h i ++ (e ∙ at) i ∷ []) ∙ (sym (map-append (pair_at f) (range_with_len 0 n) ((0 + n) ∷ [])) ∙ sym (ap (map (pair_at f)) (range_more n 0))))

taken : {A : Type 0} (xs : List A) (i : ℕ) (x : A) → slice_get xs i ≡ Some x → take (i + 1) xs ≡ take i xs ++ x ∷ []
taken [] i x h = absurd (cc h)
taken (y ∷ xs) zero x h = let e : y ≡ x = cc h in ap (λ z. z ∷ []) e
taken (y ∷ xs) (suc i) x h = ap (λ n. take n (y ∷ xs)) (let e : suc i + 1 ≡ suc (i + 1) = omega arith in e) ∙ ap (λ zs. y ∷ zs) (taken xs i x h)

pub take_next : {A : Type 0} (xs : List A) (i : ℕ) (x : A) (now new : List A) → now ≡ take i xs → new ≡ now ++ x ∷ [] → slice_get xs i ≡ Some x → new ≡ take (i + 1) xs
take_next xs i x now new h p e = p ∙ (ap (λ ys. ys ++ x ∷ []) h ∙ sym (taken xs i x e))
