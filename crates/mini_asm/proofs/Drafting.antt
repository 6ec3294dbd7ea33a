-- The lines of a source whose lines are all good, with their addresses.
use Rattle.std.specs.Prelude.{slice_get}
use Rattle.std.specs.List.{All, AllZip}
use Rattle.std.proofs.Common.{◌≡◌, ℕ, zero, suc, ◌+◌, ◌%◌, ◌^◌, ◌<◌, List, [], ◌∷◌, length, map, get_or, Option, Some, None, option_map, refl, sym, ap, ◌∙◌, subst, arith, ⊎_elim}
use Rattle.std.proofs.lemmas.Bool.{cases_order}
use Rattle.std.proofs.lemmas.List.Elements.{All-cons}
use Rattle.std.proofs.lemmas.Option.{none-some, same_Some, slice_get-map, slice_get-get_or, slice_get_within}
use Rattle.elf32_read.specs.CodeImage.{code_base}
use Rattle.mini_asm.specs.declared.form.Form.{Form}
use Rattle.mini_asm.specs.declared.form.Form.TheVariants as form
use Rattle.mini_asm.specs.declared.spots.Spot.{Spot}
use Rattle.mini_asm.specs.Faults.{AreDrafts, Draft, Following, HasSize, IsGood, IsSplit, LabelAt, MayStand}
use Rattle.mini_asm.specs.Forms.{IsForm, IsFormOf}
use Rattle.mini_asm.specs.Reads.{AreGood}
use Rattle.mini_asm.specs.Spots.{AreSpots}
use Rattle.mini_asm.proofs.OneForm.{one-form}

abbrev pub spot_of : Draft → Spot
spot_of d = record { at = d.at % 2 ^ 32; size = d.size }

abbrev pub says_of : Draft → Option Form
says_of d = Some d.says

abbrev pub line_of : Draft → List ℕ
line_of d = d.line

pub record Built (at : ℕ) (lines : List (List ℕ)) (forms : List (Option Form)) (spots : List Spot) : Type 0 where
  pub drafts : List Draft
  pub lines_are : map line_of drafts ≡ lines
  pub forms_are : forms ≡ map says_of drafts
  pub spots_are : spots ≡ map spot_of drafts
  pub is_form : All (λ d. IsForm d.line d.says) drafts
  pub has_size : All (λ d. HasSize d.says d.size) drafts
  pub follow : Following at drafts

abbrev HasForm : List ℕ → Type 0
HasForm line = (g : Form) × IsForm line g

add : (at : ℕ) (line : List ℕ) (f : Form) (s : Spot) (lines : List (List ℕ)) (forms : List (Option Form)) (spots : List Spot) → IsForm line f → s.at ≡ at % 2 ^ 32 → HasSize f s.size → Built (at + s.size) lines forms spots → Built at (line ∷ lines) (Some f ∷ forms) (s ∷ spots)
add at line f s lines forms spots is here size b =
    let d : Draft = record { line = line; says = f; at = at; size = s.size } in
    record {
      drafts = d ∷ b.drafts;
      lines_are = ap (λ ls. line ∷ ls) b.lines_are;
      forms_are = ap (λ fs. Some f ∷ fs) b.forms_are;
      spots_are = λ i. record { at = here i; size = s.size } ∷ b.spots_are i;
      is_form = All-cons (λ d. IsForm d.line d.says) d b.drafts is b.is_form;
      has_size = All-cons (λ d. HasSize d.says d.size) d b.drafts size b.has_size;
      follow = (refl, b.follow);
    }

none : (at : ℕ) → Built at [] [] []
none at = record {
  drafts = [];
  lines_are = refl;
  forms_are = refl;
  spots_are = refl;
  is_form = λ k d below. absurd (omega (arith, below));
  has_size = λ k d below. absurd (omega (arith, below));
  follow = tt;
}

built : (at : ℕ) (lines : List (List ℕ)) (forms : List (Option Form)) (spots : List Spot) → AllZip IsFormOf lines forms → AreSpots at forms spots → All HasForm lines → Built at lines forms spots
built at [] [] [] zip are all = none at
built at [] [] (s ∷ spots) zip are all = absurd are
built at [] (f ∷ forms) spots zip are all = absurd zip
built at (line ∷ lines) [] spots zip are all = absurd zip
built at (line ∷ lines) (f ∷ forms) [] zip are all = absurd are
built at (line ∷ lines) (None ∷ forms) (s ∷ spots) zip are all = let h : HasForm line = all 0 line (omega arith) in absurd (zip.0 h.0 h.1)
built at (line ∷ lines) (Some f ∷ forms) (s ∷ spots) zip are all =
    add at line f s lines forms spots zip.0 are.0 (are.1 line zip.0) (built (at + s.size) lines forms spots zip.1 are.2 (λ k d below. all (suc k) d (omega (arith, below))))

pub record Placed (source : List ℕ) (forms : List (Option Form)) (spots : List Spot) : Type 0 where
  pub drafts : List Draft
  pub are : AreDrafts source drafts
  pub forms_are : forms ≡ map says_of drafts
  pub spots_are : spots ≡ map spot_of drafts

has-form : (lines : List (List ℕ)) → ((k : ℕ) → k < length lines → IsGood lines k) → All HasForm lines
has-form lines good k d below =
    let g = good k below in
    let same : get_or lines k d ≡ g.line = same_Some _ _ (sym (slice_get-get_or lines k d below) ∙ g.here) in
    subst HasForm (sym same) (g.says, g.is_form)

pub long-map : {A B : Type 0} (f : A → B) (xs : List A) → length (map f xs) ≡ length xs
long-map f [] = refl
long-map f (x ∷ xs) = ap suc (long-map f xs)

pub placed : (source : List ℕ) (forms : List (Option Form)) (spots : List Spot) → AreGood source forms → AreSpots code_base forms spots → Placed source forms spots
placed source forms spots g s =
    let b = built code_base g.lines forms spots g.are_forms s (has-form g.lines g.good) in
    let long : length b.drafts ≡ length g.lines = sym (long-map line_of b.drafts) ∙ ap length b.lines_are in
    record {
      drafts = b.drafts;
      are = record {
        split = subst (λ ls. IsSplit source ls []) (sym b.lines_are) g.split;
        good = λ k below. subst (λ ls. IsGood ls k) (sym b.lines_are) (g.good k (omega (arith, below, long)));
        forms = b.is_form;
        sizes = b.has_size;
        follow = b.follow;
      };
      forms_are = b.forms_are;
      spots_are = b.spots_are;
    }

-- ---- what stands at a place

pub got-map : {A B : Type 0} (f : A → B) (xs : List A) (k : ℕ) (y : B) → slice_get (map f xs) k ≡ Some y → (x : A) × (slice_get xs k ≡ Some x) × (y ≡ f x)
got-map f [] k y e = absurd (none-some y e)
got-map f (x ∷ xs) zero y e = (x, refl, sym (same_Some (f x) y e))
got-map f (x ∷ xs) (suc k) y e = got-map f xs k y e

pub map-got : {A B : Type 0} (f : A → B) (xs : List A) (k : ℕ) (x : A) → slice_get xs k ≡ Some x → slice_get (map f xs) k ≡ Some (f x)
map-got f xs k x e = slice_get-map f xs k ∙ ap (option_map f) e

pub all-at : {A : Type 0} (P : A → Type 0) (xs : List A) (k : ℕ) (x : A) → All P xs → slice_get xs k ≡ Some x → P x
all-at P xs k x all e =
    let within = slice_get_within xs k x e in
    subst P (same_Some _ _ (sym (slice_get-get_or xs k x within) ∙ e)) (all k x within)

module _ (source : List ℕ) (drafts : List Draft) (are : AreDrafts source drafts) where
  pub form-at : (k : ℕ) (d : Draft) → slice_get drafts k ≡ Some d → IsForm d.line d.says
  form-at k d here = all-at (λ (d : Draft). IsForm d.line d.says) drafts k d are.forms here

  pub size-at : (k : ℕ) (d : Draft) → slice_get drafts k ≡ Some d → HasSize d.says d.size
  size-at k d here = all-at (λ (d : Draft). HasSize d.says d.size) drafts k d are.sizes here

  -- what may stand there
  pub stands-at : (k : ℕ) (d : Draft) → slice_get drafts k ≡ Some d → MayStand (map line_of drafts) k d.says
  stands-at k d here =
      let g = are.good k (slice_get_within drafts k d here) in
      let line : g.line ≡ d.line = same_Some _ _ (sym g.here ∙ map-got line_of drafts k d here) in
      let says : g.says ≡ d.says = one-form d.line g.says d.says (subst (λ l. IsForm l g.says) line g.is_form) (form-at k d here) in
      subst (MayStand (map line_of drafts) k) says g.stands

  pub label-at : (k : ℕ) (d : Draft) (name : List ℕ) → slice_get drafts k ≡ Some d → d.says ≡ form.Label name → LabelAt (map line_of drafts) k name
  label-at k d name here says = (d.line, map-got line_of drafts k d here, subst (IsForm d.line) says (form-at k d here))

  -- a label is defined once
  pub once : (j k : ℕ) (d e : Draft) (name : List ℕ) → slice_get drafts j ≡ Some d → d.says ≡ form.Label name → slice_get drafts k ≡ Some e → e.says ≡ form.Label name → j ≡ k
  once j k d e name here says there tells =
      ⊎_elim
      (λ same. same)
      (⊎_elim
      (λ less. absurd (subst (MayStand (map line_of drafts) k) tells (stands-at k e there) j less (label-at j d name here says)))
      (λ more. absurd (subst (MayStand (map line_of drafts) j) says (stands-at j d here) k more (label-at k e name there tells))))
      (cases_order j k)

  -- a label that is named is defined
  pub record Defined (name : List ℕ) (address : ℕ) : Type 0 where
    pub place : ℕ
    pub draft : Draft
    pub here : slice_get drafts place ≡ Some draft
    pub says : draft.says ≡ form.Label name
    pub address_is : address ≡ draft.at % 2 ^ 32
