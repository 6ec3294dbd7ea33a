-- The lines of forms, one more.
use Rattle.std.proofs.Common.{◌≡◌, ℕ, ◌+◌, ◌<◌, List, [], ◌∷◌, ◌++◌, length, take, get_or, Option, Some, None, refl, sym, ap, ◌∙◌, arith}
use Rattle.std.specs.List.{cons_option}
use Rattle.std.proofs.lemmas.List.{length-take-le, take_more}
use Rattle.mini_asm.specs.declared.form.Form.{Form}
use Rattle.mini_asm.specs.declared.listings.Listed.{Listed}
use Rattle.mini_asm.specs.declared.spots.Spot.{Spot}
use Rattle.mini_asm.specs.Writing.{line_of, lines_of}

cons-append : (o : Option Listed) (xs ys : List Listed) → cons_option o (xs ++ ys) ≡ cons_option o xs ++ ys
cons-append None xs ys = refl
cons-append (Some x) xs ys = refl

lines-push : (a : List ℕ → ℕ) (forms : List (Option Form)) (spots : List Spot) (f : Option Form) (s : Spot) → length forms ≡ length spots
    → lines_of a (forms ++ f ∷ []) (spots ++ s ∷ []) ≡ lines_of a forms spots ++ cons_option (line_of a f s) []
lines-push a [] [] f s same = refl
lines-push a [] (x ∷ spots) f s same = absurd (omega (arith, same))
lines-push a (g ∷ forms) [] f s same = absurd (omega (arith, same))
lines-push a (g ∷ forms) (x ∷ spots) f s same =
    ap (cons_option (line_of a g x)) (lines-push a forms spots f s (omega (arith, same)))
    ∙ cons-append (line_of a g x) (lines_of a forms spots) (cons_option (line_of a f s) [])

pub lines-taken : (a : List ℕ → ℕ) (forms : List (Option Form)) (spots : List Spot) (k : ℕ) (f : Option Form) (d : Spot) → length forms ≡ length spots → k < length forms → f ≡ get_or forms k f
    → lines_of a (take (k + 1) forms) (take (k + 1) spots) ≡ lines_of a (take k forms) (take k spots) ++ cons_option (line_of a f (get_or spots k d)) []
lines-taken a forms spots k f d same below is =
    let within : k < length spots = omega (arith, same, below) in
    ap (λ fs. lines_of a fs (take (k + 1) spots)) (take_more forms k f below)
    ∙ ap (lines_of a (take k forms ++ get_or forms k f ∷ [])) (take_more spots k d within)
    ∙ lines-push a (take k forms) (take k spots) (get_or forms k f) (get_or spots k d) (length-take-le k forms (omega (arith, below)) ∙ sym (length-take-le k spots (omega (arith, within))))
    ∙ ap (λ g. lines_of a (take k forms) (take k spots) ++ cons_option (line_of a g (get_or spots k d)) []) (sym is)
