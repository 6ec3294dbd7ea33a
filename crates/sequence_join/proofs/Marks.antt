-- Which sites are taken while a chain is made.
use Rattle.std.proofs.Common.{◌≡◌, ℕ, ◌+◌, ◌<◌, ◌≤◌, Bool, true, false, ◌||◌, List, [], ◌∷◌, ◌++◌, length, drop, get_or, set, get_or-set_other, get_or-set_same, eqb, ne_eqb, Option, refl, sym, ap, ◌∙◌, inl, inr, arith, append_assoc}
use Rattle.std.proofs.Math.Bool.{or_assoc, or-false}
use Rattle.std.proofs.Math.Seq.{drop-append_seam}
use Rattle.std.proofs.lemmas.Bool.Decides.{eqb_tells}
use Rattle.superset.specs.declared.site.Site.{Site}
use Rattle.sequence_join.specs.Chains.{Chain, after, goes_on, is_among, link, rest}
use Rattle.sequence_join.specs.Walking.{is_taken, chain_at, chain_by}
use Rattle.sequence_join.specs.laws.Rests.{goes_on_at}

-- a chain behind other links
abbrev pub behind : List ℕ → Chain → Chain
behind ks c = record { links = ks ++ c.links; next = c.next }

-- marks that agree from an index on give the same rest
pub rest_same : (f g : ℕ → Bool) (next : Option ℕ) (k : ℕ) (ss : List Site) → ((j : ℕ) → k ≤ j → f j ≡ g j) → rest f next k ss ≡ rest g next k ss
unfolding rest
rest_same f g next k [] same = refl
rest_same f g next k (s ∷ ss) same =
    rw (same k (omega arith), rest_same f g next (k + 1) ss (λ j l. same j (omega (arith, l))), rest_same f g (after s) (k + 1) ss (λ j l. same j (omega (arith, l)))) refl

pub chain_same : (f g : ℕ → Bool) (sites : List Site) (k : ℕ) → ((j : ℕ) → k < j → f j ≡ g j) → chain_at f sites k ≡ chain_at g sites k
chain_same f g sites k same = ap (link k) (rest_same f g (goes_on sites k) (k + 1) (drop (k + 1) sites) (λ j l. same j (omega (arith, l))))

pub among-append : (xs ys : List ℕ) (j : ℕ) → is_among (xs ++ ys) j ≡ (is_among xs j || is_among ys j)
among-append [] ys j = refl
among-append (x ∷ xs) ys j = ap (λ (b : Bool). eqb x j || b) (among-append xs ys j) ∙ sym (or_assoc (eqb x j) (is_among xs j) (is_among ys j))

or_true : (a b : Bool) → (a || (b || true)) ≡ true
or_true true b = refl
or_true false true = refl
or_true false false = refl

or_false : (a b : Bool) → (a || (b || false)) ≡ (a || b)
or_false true b = refl
or_false false true = refl
or_false false false = refl

-- what stands behind the first links, when one link more is appended
pub behind_first : (old now new : List ℕ) (here : ℕ) → now ≡ old ++ drop (length old) now → new ≡ now ++ here ∷ [] → drop (length old) new ≡ drop (length old) now ++ here ∷ []
behind_first old now new here split more =
    let ks = drop (length old) now in
    ap (drop (length old)) (more ∙ (ap (λ (l : List ℕ). l ++ here ∷ []) split ∙ append_assoc old ks (here ∷ []))) ∙ drop-append_seam old (ks ++ here ∷ [])

pub still_first : (old now new : List ℕ) (here : ℕ) → now ≡ old ++ drop (length old) now → new ≡ now ++ here ∷ [] → new ≡ old ++ drop (length old) new
still_first old now new here split more =
    let ks = drop (length old) now in
    more ∙ (ap (λ (l : List ℕ). l ++ here ∷ []) split ∙ (append_assoc old ks (here ∷ []) ∙ ap (λ (l : List ℕ). old ++ l) (sym (behind_first old now new here split more))))

-- one more index is marked
pub marked_more : (taken now : List Bool) (ks : List ℕ) (here j : ℕ) → here < length now → is_taken now j ≡ (is_taken taken j || is_among ks j) → is_taken (set now here true) j ≡ (is_taken taken j || is_among (ks ++ here ∷ []) j)
marked_more taken now ks here j l h =
    elim (eqb_tells here j) [
      | inl w ↦
          let same = ap (is_taken (set now here true)) (sym w.1) ∙ get_or-set_same now here true false l in
          same ∙ sym (rw (among-append ks (here ∷ []) j, w.0) (or_true (is_taken taken j) (is_among ks j)))
      | inr w ↦
          let other = get_or-set_other now here j true false (λ e. w.1 (sym e)) in
          other ∙ h ∙ sym (rw (among-append ks (here ∷ []) j, w.0) (or_false (is_taken taken j) (is_among ks j)))
    ]

-- an index behind those that were marked
pub not_among : (ks : List ℕ) (here j : ℕ) → here < j → is_among ks j ≡ false → is_among (ks ++ here ∷ []) j ≡ false
not_among ks here j l h = rw (among-append ks (here ∷ []) j, h, ne_eqb here j (omega (arith, l))) refl

-- one more link of a chain, by which site comes next
module _ (sites : List Site) (taken now : List Bool) (ks : List ℕ) (here : ℕ) (marks : (j : ℕ) → is_taken now j ≡ (is_taken taken j || is_among ks j)) (fresh : (j : ℕ) → here ≤ j → is_among ks j ≡ false) where
  unmarked : here < length now → (j : ℕ) → here < j → is_taken (set now here true) j ≡ is_taken taken j
  unmarked l j m =
      marked_more taken now ks here j l (marks j) ∙ ap (λ (b : Bool). is_taken taken j || b) (not_among ks here j m (fresh j (omega (arith, m)))) ∙ or-false (is_taken taken j)

  pub next_link : (next o : Option ℕ) (d : Site) → here < length now → here < length sites → next ≡ after (get_or sites here d) → rest (is_taken (set now here true)) next (here + 1) (drop (here + 1) sites) ≡ chain_by (is_taken (set now here true)) sites next o → behind ks (chain_at (is_taken taken) sites here) ≡ behind (ks ++ here ∷ []) (chain_by (is_taken (set now here true)) sites next o)
  next_link next o d l m e h =
      let one = rest_same (is_taken (set now here true)) (is_taken taken) next (here + 1) (drop (here + 1) sites) (λ j low. unmarked l j (omega (arith, low))) in
      let at = ap (λ (n : Option ℕ). link here (rest (is_taken taken) n (here + 1) (drop (here + 1) sites))) (goes_on_at sites here d m ∙ sym e) in
      ap (behind ks) (at ∙ ap (link here) (sym one ∙ h)) ∙ moved (chain_by (is_taken (set now here true)) sites next o)
    where
      moved : (c : Chain) → behind ks (link here c) ≡ behind (ks ++ here ∷ []) c
      moved c = ap (λ (xs : List ℕ). record { links = xs; next = c.next }) (sym (append_assoc ks (here ∷ []) c.links))

  pub next_chain : (k : ℕ) → here < length now → here < k → chain_at (is_taken (set now here true)) sites k ≡ chain_at (is_taken taken) sites k
  next_chain k l m = chain_same (is_taken (set now here true)) (is_taken taken) sites k (λ j low. unmarked l j (omega (arith, m, low)))
