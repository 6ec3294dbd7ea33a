use Rattle.std.proofs.Common.{◌≡◌, ℕ, List, length, Bool, true, false, cond, Option, Some, None, sym, ap, ◌∙◌, subst}
use Rattle.mini_asm.specs.declared.form.Form.{Form}
use Rattle.mini_asm.specs.Labels.{FirstNotStanding, first_place, place_of}
use Rattle.mini_asm.specs.Reads.{AreForms, IsBadAt}
use Rattle.mini_asm.proofs.Standing.{all-good, misplaced, same-places, unfinished}
use Rattle.mini_asm.proofs.source.bad_line.Goals as goal

pub returns-in-Some : goal.returns-in-Some
returns-in-Some c = λ source are.
    let forms = c.args.forms.now.items.items in
    let places = place_of c.in_ok-labels.labels in
    let first : (q : List ℕ) → places q ≡ first_place 0 forms q = λ q. c.in_ok-labels.ensures q ∙ ap (λ fs. first_place 0 fs q) c.as_slice.ensures.value in
    let bad = subst (λ fs. FirstNotStanding places fs (Some c.in-Some.place)) c.as_slice-2.ensures.value c.in-Some.ensures in
    misplaced source forms c.args.forms.now.whole c.in-Some.place are (same-places places forms (Some c.in-Some.place) first bad)

ended : (source : List ℕ) (forms : List (Option Form)) (whole : Bool) → FirstNotStanding (first_place 0 forms) forms None → AreForms source forms whole → IsBadAt source forms (cond whole None (Some (length forms)))
ended source forms true all are = all-good source forms are all
ended source forms false all are = unfinished source forms are all

pub returns : goal.returns
returns c = λ source are.
    let forms = c.args.forms.now.items.items in
    let places = place_of c.in_ok-labels.labels in
    let first : (q : List ℕ) → places q ≡ first_place 0 forms q = λ q. c.in_ok-labels.ensures q ∙ ap (λ fs. first_place 0 fs q) c.as_slice.ensures.value in
    let all = subst (λ fs. FirstNotStanding places fs None) c.as_slice-2.ensures.value c.in-None.ensures in
    subst (IsBadAt source forms) (sym c.unfinished.ensures)
    (ended source forms c.args.forms.now.whole (same-places places forms None first all) are)
