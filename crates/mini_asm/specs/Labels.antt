-- Where the labels of a source are defined first. Places are counted from 0.
use Rattle.std.specs.Prelude.{◌≡◌, ℕ, ◌+◌, ◌<◌, ◌==◌, Bool, true, false, if◌then◌else◌, List, [], ◌∷◌, length, Option, Some, None, is_some, slice_get}
use Rattle.std.specs.Option.{option_map_or}
use Rattle.std.specs.BTreeMap.{get_by}
use Rattle.std.specs.Cmp.Lexicographic.{slice_cmp}
use Rattle.std.specs.Ordering.{nat_cmp}
use Rattle.std.specs.Str.{bytes_eq}
use Rattle.mini_asm.specs.declared.form.Form.{Form}
use Rattle.mini_asm.specs.declared.form.Form.TheVariants as form
use Rattle.mini_asm.specs.declared.labels.Labels.{Labels}

-- the place that labels have for a name
abbrev pub place_of : Labels → List ℕ → Option ℕ
place_of labels name = get_by (λ k. slice_cmp nat_cmp name k.now) labels.places

-- a form defines the label
abbrev pub defines : Option Form → List ℕ → Bool
defines (Some (form.Label n)) name = bytes_eq n name
defines f name = false

-- the place for a name, where one may stand already
abbrev pub noted : Option ℕ → Option Form → ℕ → List ℕ → Option ℕ
noted (Some place) f k name = Some place
noted None f k name = if defines f name then Some k else None

-- the first of some forms that defines the label; places are counted from k
abbrev pub first_place : ℕ → List (Option Form) → List ℕ → Option ℕ
first_place k [] name = None
first_place k (f ∷ forms) name = if defines f name then Some k else first_place (k + 1) forms name

-- a form may stand at a place, where the labels are defined first at these places
abbrev pub stands : (List ℕ → Option ℕ) → Option Form → ℕ → Bool
stands places None k = false
stands places (Some (form.Label name)) k = option_map_or (λ place. place == k) (places name) false
stands places (Some (form.Aimed i name)) k = is_some (places name)
stands places (Some f) k = true

-- the form at a place may stand there
pub record StandsAt (places : List ℕ → Option ℕ) (forms : List (Option Form)) (k : ℕ) : Type 0 where
  pub says : Option Form
  pub here : slice_get forms k ≡ Some says
  pub may : stands places says k ≡ true

-- the first form that may not stand at its place, or none
abbrev pub FirstNotStanding : (List ℕ → Option ℕ) → List (Option Form) → Option ℕ → Type 0
FirstNotStanding places forms None = (k : ℕ) → k < length forms → StandsAt places forms k
FirstNotStanding places forms (Some k) =
    (k < length forms) × (StandsAt places forms k → ⊥) × ((j : ℕ) → j < k → StandsAt places forms j)
