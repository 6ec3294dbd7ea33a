-- Loops that go too far, and how much code there is.
use Rattle.std.proofs.Common.{◌≡◌, ℕ, ◌+◌, ◌<◌, true, false, List, length, take, get_or, Option, Some, sym, ap, ◌∙◌}
use Rattle.std.proofs.lemmas.Bool.{false≢true}
use Rattle.std.proofs.lemmas.List.{take_more}
use Rattle.std.proofs.lemmas.Option.{same_Some, slice_get-get_or}
use Rattle.mini_asm.specs.declared.form.Form.{Form}
use Rattle.mini_asm.specs.declared.spots.Spot.{Spot}
use Rattle.mini_asm.specs.Spots.{FarAt, is_far, total}
use Rattle.mini_asm.proofs.Placing.{total-push}

pub not-far : (addresses : List ℕ → ℕ) (forms : List (Option Form)) (spots : List Spot) (k : ℕ) (f : Option Form) (d : Spot) → k < length forms → k < length spots → f ≡ get_or forms k f
    → is_far addresses f (get_or spots k d) ≡ false → FarAt addresses forms spots k → ⊥
not-far addresses forms spots k f d below within is near h =
    let form : h.says ≡ f = same_Some _ _ (sym h.is_form ∙ slice_get-get_or forms k f below ∙ ap Some (sym is)) in
    let spot : h.spot ≡ get_or spots k d = same_Some _ _ (sym h.is_spot ∙ slice_get-get_or spots k d within) in
    false≢true (sym near ∙ ap (λ g. is_far addresses g (get_or spots k d)) (sym form) ∙ ap (is_far addresses h.says) (sym spot) ∙ h.far)

pub far-here : (addresses : List ℕ → ℕ) (forms : List (Option Form)) (spots : List Spot) (k : ℕ) (f : Option Form) (d : Spot) → k < length forms → k < length spots → f ≡ get_or forms k f
    → is_far addresses f (get_or spots k d) ≡ true → FarAt addresses forms spots k
far-here addresses forms spots k f d below within is far = record {
  says = f;
  is_form = slice_get-get_or forms k f below ∙ ap Some (sym is);
  spot = get_or spots k d;
  is_spot = slice_get-get_or spots k d within;
  far = far;
}

pub total-taken : (spots : List Spot) (k : ℕ) (d : Spot) → k < length spots → total (take (k + 1) spots) ≡ total (take k spots) + (get_or spots k d).size
total-taken spots k d below = ap total (take_more spots k d below) ∙ total-push (take k spots) (get_or spots k d)
