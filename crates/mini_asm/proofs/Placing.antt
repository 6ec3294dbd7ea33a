-- Where the lines of a source stand.
use Rattle.std.proofs.Common.{◌≡◌, ℕ, ◌+◌, ◌%◌, ◌^◌, List, [], ◌∷◌, ◌++◌, length, take, get_or, ◌<◌, Option, sym, ap, ◌∙◌, subst, arith}
use Rattle.std.proofs.lemmas.List.{take_more}
use Rattle.mini_asm.specs.declared.form.Form.{Form}
use Rattle.mini_asm.specs.declared.spots.Spot.{Spot}
use Rattle.mini_asm.specs.Spots.{AreSpots, IsSizeOf, total}

pub total-push : (spots : List Spot) (s : Spot) → total (spots ++ s ∷ []) ≡ total spots + s.size
total-push [] s = omega arith
total-push (x ∷ spots) s = let e = total-push spots s in omega (arith, e)

pub spots-push : (at : ℕ) (forms : List (Option Form)) (spots : List Spot) (f : Option Form) (s : Spot) → AreSpots at forms spots → s.at ≡ (at + total spots) % 2 ^ 32 → IsSizeOf f s.size → AreSpots at (forms ++ f ∷ []) (spots ++ s ∷ [])
spots-push at [] [] f s are here size = (here ∙ ap (λ n. n % 2 ^ 32) (omega arith), size, tt)
spots-push at [] (x ∷ spots) f s are here size = absurd are
spots-push at (g ∷ forms) [] f s are here size = absurd are
spots-push at (g ∷ forms) (x ∷ spots) f s are here size =
    (are.0, are.1, spots-push (at + x.size) forms spots f s are.2 (here ∙ ap (λ n. n % 2 ^ 32) (omega arith)) size)

pub spots-taken : (at : ℕ) (forms : List (Option Form)) (k : ℕ) (f : Option Form) (spots : List Spot) (s : Spot) → AreSpots at (take k forms) spots → s.at ≡ (at + total spots) % 2 ^ 32 → IsSizeOf f s.size
    → f ≡ get_or forms k f → k < length forms → AreSpots at (take (k + 1) forms) (spots ++ s ∷ [])
spots-taken at forms k f spots s are here size is below =
    subst (λ fs. AreSpots at fs (spots ++ s ∷ [])) (ap (λ g. take k forms ++ g ∷ []) is ∙ sym (take_more forms k f below))
    (spots-push at (take k forms) spots f s are here size)
