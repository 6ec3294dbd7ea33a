-- What is at fault in a source whose lines are all good, as code finds it.
use Rattle.std.specs.Prelude.{nat_lt, nat_le, ◌&&◌, slice_get}
use Rattle.std.specs.Option.{option_map_or}
use Rattle.std.proofs.Common.{◌≡◌, ℕ, zero, suc, ◌+◌, ◌-◌, ◌%◌, ◌^◌, ◌<◌, ◌≤◌, Bool, true, false, List, [], ◌∷◌, length, map, take, Option, Some, None, refl, sym, ap, ◌∙◌, subst, arith}
use Rattle.std.proofs.lemmas.Bool.{false≢true}
use Rattle.std.proofs.lemmas.Bool.Decides.{nat_tests}
use Rattle.std.proofs.lemmas.Option.{none-some, same_Some, slice_get-get_or, slice_get_within}
use Rattle.mv_base.specs.Memory.{address_after, distance}
use Rattle.elf32_read.specs.CodeImage.{code_base}
use Rattle.x86_insn.specs.declared.insn.Insn.{Insn}
use Rattle.x86_insn.specs.declared.insn.Insn.TheVariants as insn
use Rattle.x86_insn.specs.declared.insn.LoopKind.{LoopKind}
use Rattle.mini_asm.specs.declared.form.Form.{Form}
use Rattle.mini_asm.specs.declared.form.Form.TheVariants as form
use Rattle.mini_asm.specs.declared.spots.Spot.{Spot}
use Rattle.mini_asm.specs.Faults.{AreDrafts, Draft, EndsPast, Following, HasNoCode, IsFarAt, IsFarLoop, IsFault, IsFirst, IsOutOfReach, MayStand, end_of}
use Rattle.mini_asm.specs.Faults.IsFault.{FarLoop, NoCode, TooLong}
use Rattle.mini_asm.specs.Forms.{IsForm, IsLabel}
use Rattle.mini_asm.specs.Labels.{first_place}
use Rattle.mini_asm.specs.Spots.{FarAt, IsFull, IsMisfit, address_in, is_far, is_long, total}
use Rattle.mini_asm.specs.Spots.IsMisfit.{Empty, Far, Full}
use Rattle.mini_asm.proofs.Drafting.{Placed, form-at, got-map, line_of, long-map, map-got, once, says_of, spot_of, stands-at}
use Rattle.mini_asm.proofs.OneForm.{one-form}
use Rattle.mini_asm.proofs.Standing.{first-none, first-some}

-- ---- how far a loop goes

long-true : (n : ℕ) → (nat_le 128 n && nat_lt n (2 ^ 32 - 128)) ≡ true → (128 ≤ n) × (n < 2 ^ 32 - 128)
long-true n h = go (nat_le 128 n) (nat_lt n (2 ^ 32 - 128)) refl refl h where
  go : (a b : Bool) → nat_le 128 n ≡ a → nat_lt n (2 ^ 32 - 128) ≡ b → (a && b) ≡ true → (128 ≤ n) × (n < 2 ^ 32 - 128)
  go true true ea eb h = (grind (arith, nat_tests), grind (arith, nat_tests))
  go true false ea eb h = absurd (false≢true h)
  go false b ea eb h = absurd (false≢true h)

long-again : (n : ℕ) → 128 ≤ n → n < 2 ^ 32 - 128 → (nat_le 128 n && nat_lt n (2 ^ 32 - 128)) ≡ true
long-again n least most =
    let a : nat_le 128 n ≡ true = grind (arith, nat_tests) in
    let b : nat_lt n (2 ^ 32 - 128) ≡ true = grind (arith, nat_tests) in
    rw (a, b) refl

-- addresses modulo 2^32
same-distance : (at size t to : ℕ) → t % 2 ^ 32 ≡ to % 2 ^ 32 → t < 2 ^ 32 → distance (address_after (at % 2 ^ 32) size) t ≡ distance ((at + size) % 2 ^ 32) (to % 2 ^ 32)
same-distance at size t to same low =
    let from : address_after (at % 2 ^ 32) size ≡ (at + size) % 2 ^ 32 = omega arith in
    let place : t ≡ to % 2 ^ 32 = omega (arith, same, low) in
    ap (λ n. distance n t) from ∙ ap (distance ((at + size) % 2 ^ 32)) place

module _ (at size t to : ℕ) (same : t % 2 ^ 32 ≡ to % 2 ^ 32) (low : t < 2 ^ 32) (k : LoopKind) where
  out : is_long (insn.Loop k t) (address_after (at % 2 ^ 32) size) ≡ true → IsOutOfReach (at + size) to
  out h =
      let l = long-true (distance (address_after (at % 2 ^ 32) size) t) h in
      subst (λ n. (128 ≤ n) × (n < 2 ^ 32 - 128)) (same-distance at size t to same low) l

  out-again : IsOutOfReach (at + size) to → is_long (insn.Loop k t) (address_after (at % 2 ^ 32) size) ≡ true
  out-again h =
      ap (λ n. nat_le 128 n && nat_lt n (2 ^ 32 - 128)) (same-distance at size t to same low)
      ∙ long-again (distance ((at + size) % 2 ^ 32) (to % 2 ^ 32)) h.0 h.1

-- ---- where a label is

pub record Defined (drafts : List Draft) (name : List ℕ) (address : ℕ) : Type 0 where
  pub place : ℕ
  pub draft : Draft
  pub here : slice_get drafts place ≡ Some draft
  pub says : draft.says ≡ form.Label name
  pub address_is : address ≡ draft.at % 2 ^ 32

abbrev pub address_at : Option ℕ → List Spot → ℕ
address_at o spots = option_map_or (λ place. option_map_or (λ (s : Spot). s.at) (slice_get spots place) 0) o 0

says-label : (d : Draft) (name : List ℕ) → Some (form.Label name) ≡ says_of d → d.says ≡ form.Label name
says-label d name e = sym (same_Some (form.Label name) d.says e)

module _ (source : List ℕ) (drafts : List Draft) (are : AreDrafts source drafts) where
  pub defined-at : (name : List ℕ) (k : ℕ) (d : Draft) → slice_get drafts k ≡ Some d → d.says ≡ form.Label name
      → Defined drafts name (address_in (first_place 0 (map says_of drafts)) (map spot_of drafts) name)
  defined-at name k d here says = go (first_place 0 (map says_of drafts) name) refl where
    go : (o : Option ℕ) → first_place 0 (map says_of drafts) name ≡ o → Defined drafts name (address_at o (map spot_of drafts))
    go None e = absurd (first-none 0 (map says_of drafts) name e k (map-got says_of drafts k d here ∙ ap (λ (f : Form). Some (Some f)) says))
    go (Some p) e =
        let r = first-some 0 (map says_of drafts) name p e in
        let g = got-map says_of drafts r.0 (Some (form.Label name)) r.2.here in
        let same : p ≡ r.0 = omega (arith, r.1) in
        record {
          place = r.0;
          draft = g.0;
          here = g.1;
          says = says-label g.0 name g.2;
          address_is = ap (λ k. option_map_or (λ (s : Spot). s.at) (slice_get (map spot_of drafts) k) 0) same ∙ ap (λ o. option_map_or (λ (s : Spot). s.at) o 0) (map-got spot_of drafts r.0 g.0 g.1);
        }

  -- the label of an address is the one that is named
  pub at-label : (name : List ℕ) (k : ℕ) (d : Draft) → slice_get drafts k ≡ Some d → d.says ≡ form.Label name
      → address_in (first_place 0 (map says_of drafts)) (map spot_of drafts) name ≡ d.at % 2 ^ 32
  at-label name k d here says =
      let f = defined-at name k d here says in
      let same : f.place ≡ k = once source drafts are f.place k f.draft d name f.here f.says here says in
      f.address_is ∙ ap (λ (e : Draft). e.at % 2 ^ 32) (same_Some f.draft d (sym f.here ∙ ap (slice_get drafts) same ∙ here))

  pub named-at : (k : ℕ) (d : Draft) (i : Insn) (name : List ℕ) → slice_get drafts k ≡ Some d → d.says ≡ form.Aimed i name
      → (j : ℕ) × (e : Draft) × (slice_get drafts j ≡ Some e) × (e.says ≡ form.Label name)
  named-at k d i name here says =
      let l = subst (MayStand (map line_of drafts) k) says (stands-at source drafts are k d here) in
      let g = got-map line_of drafts l.0 l.1.0 l.1.1 in
      (l.0, g.0, g.1, one-form g.0.line g.0.says (form.Label name) (form-at source drafts are l.0 g.0 g.1) (subst (λ t. IsLabel t name) g.2 l.1.2))

  abbrev pub addresses : List ℕ → ℕ
  addresses = address_in (first_place 0 (map says_of drafts)) (map spot_of drafts)

  -- a loop is judged as its draft is
  far-here : (k : ℕ) (d : Draft) → slice_get drafts k ≡ Some d → is_far addresses (says_of d) (spot_of d) ≡ true → IsFarLoop drafts d d.says
  far-here k d here far = go d.says refl far where
    go : (f : Form) → d.says ≡ f → is_far addresses (Some f) (spot_of d) ≡ true → IsFarLoop drafts d f
    go (form.Code (insn.Loop kind to)) e h = out d.at d.size to to refl ((subst (IsForm d.line) e (form-at source drafts are k d here)).0) kind h
    go (form.Aimed (insn.Loop kind rel) name) e h =
        let n = named-at k d (insn.Loop kind rel) name here e in
        let a = at-label name n.0 n.1 n.2 n.3 in
        let within = slice_get_within drafts n.0 n.1 n.2 in (
          n.1,
          (n.0, within, same_Some _ _ (sym (slice_get-get_or drafts n.0 n.1 within) ∙ n.2)),
          n.3,
          out d.at d.size (addresses name) n.1.at (omega (arith, a)) (omega (arith, a)) kind h,
        )
    go f e h = absurd (false≢true h)

  far-again : (k : ℕ) (d : Draft) → slice_get drafts k ≡ Some d → IsFarLoop drafts d d.says → is_far addresses (says_of d) (spot_of d) ≡ true
  far-again k d here far = go d.says refl far where
    go : (f : Form) → d.says ≡ f → IsFarLoop drafts d f → is_far addresses (Some f) (spot_of d) ≡ true
    go (form.Code (insn.Loop kind to)) e h = out-again d.at d.size to to refl ((subst (IsForm d.line) e (form-at source drafts are k d here)).0) kind h
    go (form.Aimed (insn.Loop kind rel) name) e h =
        let c = h.1 in
        let a = at-label name c.0 h.0 (slice_get-get_or drafts c.0 h.0 c.1 ∙ ap Some c.2) h.2 in
        out-again d.at d.size (addresses name) h.0.at (omega (arith, a)) (omega (arith, a)) kind h.3
    go f e h = absurd h

  pub far-draft : (k : ℕ) → FarAt addresses (map says_of drafts) (map spot_of drafts) k → IsFarAt drafts k
  far-draft k h =
      let g = got-map says_of drafts k h.says h.is_form in
      let spot : h.spot ≡ spot_of g.0 = same_Some h.spot (spot_of g.0) (sym h.is_spot ∙ map-got spot_of drafts k g.0 g.1) in
      (g.0, g.1, far-here k g.0 g.1 (ap (λ s. is_far addresses (says_of g.0) s) (sym spot) ∙ ap (λ f. is_far addresses f h.spot) (sym g.2) ∙ h.far))

  pub far-spot : (k : ℕ) → IsFarAt drafts k → FarAt addresses (map says_of drafts) (map spot_of drafts) k
  far-spot k h = record {
    says = says_of h.0;
    is_form = map-got says_of drafts k h.0 h.1;
    spot = spot_of h.0;
    is_spot = map-got spot_of drafts k h.0 h.1;
    far = far-again k h.0 h.1 h.2;
  }

-- ---- how many bytes there are

pub grows : (spots : List Spot) (j k : ℕ) → j ≤ k → total (take j spots) ≤ total (take k spots)
grows [] zero k le = omega arith
grows [] (suc j) zero le = omega arith
grows [] (suc j) (suc k) le = omega arith
grows (s ∷ spots) zero k le = omega arith
grows (s ∷ spots) (suc j) zero le = absurd (omega (arith, le))
grows (s ∷ spots) (suc j) (suc k) le = let rest = grows spots j k (omega (arith, le)) in omega (arith, rest)

pub below-all : (spots : List Spot) (k : ℕ) → total (take k spots) ≤ total spots
below-all [] zero = omega arith
below-all [] (suc k) = omega arith
below-all (s ∷ spots) zero = omega arith
below-all (s ∷ spots) (suc k) = let rest = below-all spots k in omega (arith, rest)

pub ends : (at : ℕ) (drafts : List Draft) (k : ℕ) (d : Draft) → Following at drafts → slice_get drafts k ≡ Some d → end_of d ≡ at + total (take (suc k) (map spot_of drafts))
ends at [] k d follow here = absurd (none-some d here)
ends at (x ∷ drafts) zero d follow here =
    let same : end_of x ≡ end_of d = ap end_of (same_Some x d here) in
    omega (arith, same, follow.0)
ends at (x ∷ drafts) (suc k) d follow here =
    let rest = ends (end_of x) drafts k d follow.1 here in
    omega (arith, rest, follow.0)

pub got : {A : Type 0} (xs : List A) (k : ℕ) → k < length xs → (x : A) × (slice_get xs k ≡ Some x)
got [] k below = absurd (omega (arith, below))
got (x ∷ xs) zero below = (x, refl)
got (x ∷ xs) (suc k) below = got xs k (omega (arith, below))

first-past : (drafts : List Draft) (place : ℕ) → Following code_base drafts → IsFull (map spot_of drafts) place → IsFirst (EndsPast drafts) place
first-past drafts place follow full =
    let spots = map spot_of drafts in
    let g = got drafts place (omega (arith, full.within, long-map spot_of drafts)) in
    let e = ends code_base drafts place g.0 follow g.1 in
    let more : suc place ≡ place + 1 = omega arith in
    let one = ap (λ n. total (take n spots)) more in
    record {
      holds = (g.0, g.1, omega (arith, e, full.past, one));
      none_before = λ j below h.
          let f = ends code_base drafts j h.0 follow h.1 in
          let less = grows spots (suc j) place (omega (arith, below)) in
          omega (arith, f, less, full.before, h.2);
    }

no-code : (drafts : List Draft) → total (map spot_of drafts) ≡ 0 → HasNoCode drafts
no-code [] none k d below = absurd (omega (arith, below))
no-code (x ∷ drafts) none zero d below = omega (arith, none)
no-code (x ∷ drafts) none (suc k) d below = no-code drafts (omega (arith, none)) k d (omega (arith, below))

pub no-bytes : (drafts : List Draft) → HasNoCode drafts → total (map spot_of drafts) ≡ 0
no-bytes [] none = refl
no-bytes (x ∷ drafts) none =
    let first : x.size ≡ 0 = none 0 x (omega arith) in
    let rest = no-bytes drafts (λ k d below. none (suc k) d (omega (arith, below))) in
    omega (arith, first, rest)

-- ---- the line at fault

module _ (source : List ℕ) (drafts : List Draft) (are : AreDrafts source drafts) where
  fault-at : (place : ℕ) → IsMisfit (addresses source drafts are) (map says_of drafts) (map spot_of drafts) place → IsFault source (place + 1)
  fault-at _ (Far place first) =
      FarLoop drafts place are (record {
        holds = far-draft source drafts are place first.0;
        none_before = λ k below far. first.1 k below (far-spot source drafts are k far);
      })
  fault-at _ (Full place near full) = TooLong drafts place are (λ j far. near j (far-spot source drafts are j far)) (first-past drafts place are.follow full)
  fault-at _ (Empty near none) =
      subst (λ n. IsFault source (n + 1)) (sym (long-map says_of drafts))
      (NoCode drafts are (λ j far. near j (far-spot source drafts are j far)) (no-code drafts none))

pub at-fault : (source : List ℕ) (forms : List (Option Form)) (spots : List Spot) (place : ℕ) → Placed source forms spots → IsMisfit (address_in (first_place 0 forms) spots) forms spots place → IsFault source (place + 1)
at-fault source forms spots place p h =
    fault-at source p.drafts p.are place
    (subst (λ ss. IsMisfit (address_in (first_place 0 (map says_of p.drafts)) ss) (map says_of p.drafts) ss place) p.spots_are
    (subst (λ fs. IsMisfit (address_in (first_place 0 fs) spots) fs spots place) p.forms_are h))
