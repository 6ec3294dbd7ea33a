-- The labels of one form more.
use Rattle.std.proofs.Common.{◌≡◌, ℕ, suc, ◌+◌, Bool, true, false, cond, List, [], ◌∷◌, ◌++◌, length, take, get_or, ◌<◌, Option, Some, None, refl, ap, ◌∙◌, arith}
use Rattle.std.proofs.lemmas.List.{length-take-le, take_more}
use Rattle.mini_asm.specs.declared.form.Form.{Form}
use Rattle.mini_asm.specs.Labels.{defines, first_place, noted}

pub first-push : (k : ℕ) (forms : List (Option Form)) (f : Option Form) (q : List ℕ) → first_place k (forms ++ f ∷ []) q ≡ noted (first_place k forms q) f (k + length forms) q
first-push k [] f q = ap (λ n. cond (defines f q) (Some n) None) (omega arith)
first-push k (g ∷ forms) f q =
    go (defines g q) (first-push (k + 1) forms f q ∙ ap (λ n. noted (first_place (k + 1) forms q) f n q) (omega arith))
  where
    go : (b : Bool) → first_place (k + 1) (forms ++ f ∷ []) q ≡ noted (first_place (k + 1) forms q) f (k + suc (length forms)) q
        → cond b (Some k) (first_place (k + 1) (forms ++ f ∷ []) q) ≡ noted (cond b (Some k) (first_place (k + 1) forms q)) f (k + suc (length forms)) q
    go true rest = refl
    go false rest = rest

pub first-next : (forms : List (Option Form)) (k : ℕ) (d : Option Form) (q : List ℕ) → k < length forms → first_place 0 (take (k + 1) forms) q ≡ noted (first_place 0 (take k forms) q) (get_or forms k d) k q
first-next forms k d q below =
    ap (λ fs. first_place 0 fs q) (take_more forms k d below)
    ∙ first-push 0 (take k forms) (get_or forms k d) q
    ∙ ap (λ n. noted (first_place 0 (take k forms) q) (get_or forms k d) n q) (let same = length-take-le k forms (omega (arith, below)) in omega (arith, same))
