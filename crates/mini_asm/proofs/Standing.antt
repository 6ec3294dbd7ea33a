-- Which lines are lines of a source, by their forms and by where the labels are defined first.
use Rattle.std.proofs.Common.{◌≡◌, ◌≢◌, ℕ, zero, suc, ◌+◌, ◌<◌, ◌≤◌, Bool, true, false, cond, eqb, ◌==◌, List, [], ◌∷◌, length, Option, Some, None, refl, sym, ap, ◌∙◌, subst, arith, ⊎_elim}
use Rattle.std.specs.Prelude.{is_some, slice_get}
use Rattle.std.specs.List.{AllZip}
use Rattle.std.specs.Option.{option_map_or}
use Rattle.std.proofs.lemmas.Bool.{cases_order, eqb-true, eq-eqb, false≢true}
use Rattle.std.proofs.lemmas.Option.{none-some, same_Some}
use Rattle.std.proofs.lemmas.Slice.Zip.{AllZip-long}
use Rattle.std.proofs.lemmas.Slice.Eq.{bytes_eq-Decides}
use Rattle.mini_asm.specs.declared.form.Form.{Form}
use Rattle.mini_asm.specs.declared.form.Form.TheVariants as form
use Rattle.mini_asm.specs.Faults.{IsFault, IsGood, IsSplit, LabelAt, MayStand}
use Rattle.mini_asm.specs.Faults.IsFault.{BadLine}
use Rattle.mini_asm.specs.Forms.{IsForm, IsFormOf}
use Rattle.mini_asm.specs.Labels.{FirstNotStanding, defines, first_place, stands, StandsAt}
use Rattle.mini_asm.specs.Reads.{AreForms, AreGood}
use Rattle.mini_asm.proofs.OneForm.{one-form}

-- ---- the first that defines a label

pub record IsFirstPlace (forms : List (Option Form)) (name : List ℕ) (j : ℕ) : Type 0 where
  pub here : slice_get forms j ≡ Some (Some (form.Label name))
  pub before : (i : ℕ) → i < j → slice_get forms i ≢ Some (Some (form.Label name))

defined : (f : Option Form) (name : List ℕ) → defines f name ≡ true → f ≡ Some (form.Label name)
defined (Some (form.Label n)) name h = ap (λ m. Some (form.Label m)) ((bytes_eq-Decides n name).0 h)
defined f name h = absurd (false≢true h)

defined-again : (name : List ℕ) → defines (Some (form.Label name)) name ≡ true
defined-again name = (bytes_eq-Decides name name).1 refl

-- no place of a list without the label
not-here : (f : Option Form) (name : List ℕ) → defines f name ≡ false → f ≢ Some (form.Label name)
not-here f name out e = false≢true (sym out ∙ ap (λ g. defines g name) e ∙ defined-again name)

pub first-none : (k : ℕ) (forms : List (Option Form)) (name : List ℕ) → first_place k forms name ≡ None → (j : ℕ) → slice_get forms j ≢ Some (Some (form.Label name))
first-none k [] name none j here = none-some _ here
first-none k (f ∷ forms) name none j here = go (λ rest i. first-none (k + 1) forms name rest i) (defines f name) refl none j here where
  go : (first_place (k + 1) forms name ≡ None → (i : ℕ) → slice_get forms i ≢ Some (Some (form.Label name)))
      → (b : Bool) → defines f name ≡ b → cond b (Some k) (first_place (k + 1) forms name) ≡ None → (j : ℕ) → slice_get (f ∷ forms) j ≢ Some (Some (form.Label name))
  go rest true e h j here = none-some k (sym h)
  go rest false e h zero here = not-here f name e (same_Some f _ here)
  go rest false e h (suc j) here = rest h j here

-- one place further
later : (f : Option Form) (forms : List (Option Form)) (name : List ℕ) (j : ℕ) → defines f name ≡ false → IsFirstPlace forms name j → IsFirstPlace (f ∷ forms) name (suc j)
later f forms name j e first = record { here = first.here; before = early } where
  early : (i : ℕ) → i < suc j → slice_get (f ∷ forms) i ≢ Some (Some (form.Label name))
  early zero below here = not-here f name e (same_Some f _ here)
  early (suc i) below here = first.before i (omega (arith, below)) here

pub first-some : (k : ℕ) (forms : List (Option Form)) (name : List ℕ) (p : ℕ) → first_place k forms name ≡ Some p → (j : ℕ) × (p ≡ k + j) × IsFirstPlace forms name j
first-some k [] name p h = absurd (none-some p h)
first-some k (f ∷ forms) name p h = go (λ rest. first-some (k + 1) forms name p rest) (defines f name) refl h where
  go : (first_place (k + 1) forms name ≡ Some p → (j : ℕ) × (p ≡ k + 1 + j) × IsFirstPlace forms name j)
      → (b : Bool) → defines f name ≡ b → cond b (Some k) (first_place (k + 1) forms name) ≡ Some p → (j : ℕ) × (p ≡ k + j) × IsFirstPlace (f ∷ forms) name j
  go rest true e h =
      let same = same_Some k p h in
      (0, omega (arith, same), record { here = ap Some (defined f name e); before = λ i below. absurd (omega (arith, below)) })
  go rest false e h =
      let r = rest h in
      (suc r.0, omega (arith, r.1), later f forms name r.0 e r.2)

-- ---- lines and their forms

zip-right : (lines : List (List ℕ)) (forms : List (Option Form)) (k : ℕ) (line : List ℕ) → AllZip IsFormOf lines forms → slice_get lines k ≡ Some line → (f : Option Form) × (slice_get forms k ≡ Some f) × IsFormOf line f
zip-right [] forms k line all here = absurd (none-some line here)
zip-right (x ∷ lines) [] k line all here = absurd all
zip-right (x ∷ lines) (f ∷ forms) zero line all here = (f, refl, subst (λ l. IsFormOf l f) (same_Some x line here) all.0)
zip-right (x ∷ lines) (f ∷ forms) (suc k) line all here = zip-right lines forms k line all.1 here

zip-left : (lines : List (List ℕ)) (forms : List (Option Form)) (k : ℕ) (f : Option Form) → AllZip IsFormOf lines forms → slice_get forms k ≡ Some f → (line : List ℕ) × (slice_get lines k ≡ Some line) × IsFormOf line f
zip-left [] [] k f all here = absurd (none-some f here)
zip-left [] (g ∷ forms) k f all here = absurd all
zip-left (x ∷ lines) [] k f all here = absurd all
zip-left (x ∷ lines) (g ∷ forms) zero f all here = (x, refl, subst (IsFormOf x) (same_Some g f here) all.0)
zip-left (x ∷ lines) (g ∷ forms) (suc k) f all here = zip-left lines forms k f all.1 here

only-form : (line : List ℕ) (f : Option Form) (g : Form) → IsFormOf line f → IsForm line g → f ≡ Some g
only-form line None g none is = absurd (none g is)
only-form line (Some f) g one is = ap Some (one-form line f g one is)

module _ (lines : List (List ℕ)) (forms : List (Option Form)) (all : AllZip IsFormOf lines forms) where
  -- a line that is the label has the form of the label
  pub label-form : (k : ℕ) (name : List ℕ) → LabelAt lines k name → slice_get forms k ≡ Some (Some (form.Label name))
  label-form k name l =
      let z = zip-right lines forms k l.0 all l.1 in
      z.1 ∙ ap Some (only-form l.0 z.0 (form.Label name) z.2 l.2)

  pub form-label : (k : ℕ) (name : List ℕ) → slice_get forms k ≡ Some (Some (form.Label name)) → LabelAt lines k name
  form-label k name here =
      let z = zip-left lines forms k (Some (form.Label name)) all here in
      (z.0, z.1, z.2)

  -- the form that may stand is that of a good line
  good-form : (k : ℕ) (f : Option Form) → slice_get forms k ≡ Some f → stands (first_place 0 forms) f k ≡ true → IsGood lines k
  good-form k None here may = absurd (false≢true may)
  good-form k (Some (form.Label name)) here may = go (first_place 0 forms name) refl may where
    go : (o : Option ℕ) → first_place 0 forms name ≡ o → option_map_or (λ place. eqb place k) o false ≡ true → IsGood lines k
    go None e h = absurd (false≢true h)
    go (Some p) e h =
        let z = zip-left lines forms k (Some (form.Label name)) all here in
        let r = first-some 0 forms name p e in
        let same : r.0 ≡ k = let e = eqb-true p k h in omega (arith, r.1, e) in
        record {
          line = z.0;
          here = z.1;
          says = form.Label name;
          is_form = z.2;
          stands = λ i below l. r.2.before i (omega (arith, below, same)) (label-form i name l);
        }
  good-form k (Some (form.Aimed a name)) here may = go (first_place 0 forms name) refl may where
    go : (o : Option ℕ) → first_place 0 forms name ≡ o → is_some o ≡ true → IsGood lines k
    go None e h = absurd (false≢true h)
    go (Some p) e h =
        let z = zip-left lines forms k (Some (form.Aimed a name)) all here in
        let r = first-some 0 forms name p e in
        record { line = z.0; here = z.1; says = form.Aimed a name; is_form = z.2; stands = (r.0, form-label r.0 name r.2.here) }
  good-form k (Some form.Nothing) here may =
      let z = zip-left lines forms k (Some form.Nothing) all here in
      record { line = z.0; here = z.1; says = form.Nothing; is_form = z.2; stands = tt }
  good-form k (Some (form.Raw b)) here may =
      let z = zip-left lines forms k (Some (form.Raw b)) all here in
      record { line = z.0; here = z.1; says = form.Raw b; is_form = z.2; stands = tt }
  good-form k (Some (form.Code i)) here may =
      let z = zip-left lines forms k (Some (form.Code i)) all here in
      record { line = z.0; here = z.1; says = form.Code i; is_form = z.2; stands = tt }

  pub good : (k : ℕ) → StandsAt (first_place 0 forms) forms k → IsGood lines k
  good k s = good-form k s.says s.here s.may

  -- the form of a good line may stand
  stands-form : (k : ℕ) (g : Form) → slice_get forms k ≡ Some (Some g) → MayStand lines k g → stands (first_place 0 forms) (Some g) k ≡ true
  stands-form k (form.Label name) here may = go (first_place 0 forms name) refl where
    go : (o : Option ℕ) → first_place 0 forms name ≡ o → option_map_or (λ place. eqb place k) o false ≡ true
    go None e = absurd (first-none 0 forms name e k here)
    go (Some p) e =
        let r = first-some 0 forms name p e in
        ⊎_elim
        (λ same. eq-eqb p k (omega (arith, r.1, same)))
        (⊎_elim
        (λ less. absurd (may r.0 less (form-label r.0 name r.2.here)))
        (λ more. absurd (r.2.before k more here)))
        (cases_order r.0 k)
  stands-form k (form.Aimed a name) here may = go (first_place 0 forms name) refl where
    go : (o : Option ℕ) → first_place 0 forms name ≡ o → is_some o ≡ true
    go None e = absurd (first-none 0 forms name e may.0 (label-form may.0 name may.1))
    go (Some p) e = refl
  stands-form k form.Nothing here may = refl
  stands-form k (form.Raw b) here may = refl
  stands-form k (form.Code i) here may = refl

  pub stands-good : (k : ℕ) → IsGood lines k → StandsAt (first_place 0 forms) forms k
  stands-good k g =
      let z = zip-right lines forms k g.line all g.here in
      let there : slice_get forms k ≡ Some (Some g.says) = z.1 ∙ ap Some (only-form g.line z.0 g.says z.2 g.is_form) in
      record { says = Some g.says; here = there; may = stands-form k g.says there g.stands }

-- ---- the first line that is none

past-end : {X : Type 0} (xs : List X) (k : ℕ) (x : X) → length xs ≤ k → slice_get xs k ≢ Some x
past-end [] k x past e = none-some x e
past-end (y ∷ xs) zero x past e = absurd (omega (arith, past))
past-end (y ∷ xs) (suc k) x past e = past-end xs k x (omega (arith, past)) e

no-rest : (rest : List ℕ) → (length rest == 0) ≡ true → rest ≡ []
no-rest [] h = refl
no-rest (c ∷ rest) h = let e = eqb-true (length (c ∷ rest)) 0 h in absurd (omega (arith, e))

-- what no line feed ends is one line more
one-more : (b : Bool) (n m : ℕ) → b ≡ false → n ≡ m → n < m + cond b 0 1
one-more true n m e same = absurd (false≢true (sym e))
one-more false n m e same = omega (arith, same)

module _ (source : List ℕ) (forms : List (Option Form)) where
  pub misplaced : (whole : Bool) (k : ℕ) → AreForms source forms whole → FirstNotStanding (first_place 0 forms) forms (Some k) → IsFault source (k + 1)
  misplaced whole k a bad =
      let long = AllZip-long IsFormOf a.lines forms a.are_forms in
      BadLine a.lines a.rest k a.split (record {
        holds = (omega (arith, bad.0, long), λ g. bad.1 (stands-good a.lines forms a.are_forms k g));
        none_before = λ j below b. b.1 (good a.lines forms a.are_forms j (bad.2 j below));
      })

  pub unfinished : AreForms source forms false → FirstNotStanding (first_place 0 forms) forms None → IsFault source (length forms + 1)
  unfinished a all =
      let long = AllZip-long IsFormOf a.lines forms a.are_forms in
      BadLine a.lines a.rest (length forms) a.split (record {
        holds = (one-more (length a.rest == 0) (length forms) (length a.lines) (sym a.ends) long, λ g. past-end a.lines (length forms) g.line (omega (arith, long)) g.here);
        none_before = λ j below b. b.1 (good a.lines forms a.are_forms j (all j below));
      })

  pub all-good : AreForms source forms true → FirstNotStanding (first_place 0 forms) forms None → AreGood source forms
  all-good a all =
      let long = AllZip-long IsFormOf a.lines forms a.are_forms in
      record {
        lines = a.lines;
        split = subst (IsSplit source a.lines) (no-rest a.rest (sym a.ends)) a.split;
        are_forms = a.are_forms;
        good = λ k below. good a.lines forms a.are_forms k (all k (omega (arith, long, below)));
      }

-- places that are the first ones
pub same-places : (places : List ℕ → Option ℕ) (forms : List (Option Form)) (o : Option ℕ) → ((q : List ℕ) → places q ≡ first_place 0 forms q) → FirstNotStanding places forms o → FirstNotStanding (first_place 0 forms) forms o
same-places places forms o same h = subst (λ f. FirstNotStanding f forms o) (λ i q. same q i) h
