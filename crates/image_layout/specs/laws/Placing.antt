-- Where parts stand that follow one another without gaps: of any lengths, and with any bytes of these lengths.
use Rattle.std.proofs.Common.{◌≡◌, ℕ, ◌+◌, ◌<◌, ◌≤◌, ◌⊎◌, Bool, true, false, cond, List, [], ◌∷◌, ◌++◌, length, Option, Some, None, refl, sym, ap, ◌∙◌, subst, inl, inr, arith}
use Rattle.std.specs.Prelude.{slice_index}
use Rattle.std.proofs.lemmas.Bool.{cases_Bool, eqb-true, eq-eqb}
use Rattle.std.proofs.lemmas.List.{length-append}
use Rattle.std.proofs.lemmas.Option.{none-some, same_Some}
use Rattle.elf32_write.specs.Parts.{Stands, stands_whole, stands_left, stands_right}
use Rattle.image_layout.specs.Parts.{Part, Piece, Join, part_len, parts_len, placed, is_piece, place_or}
use Rattle.image_layout.specs.Pieces.{bytes_of}

-- ---- tests as numbers

abbrev pub one_if : Bool → ℕ
one_if t = cond t 1 0

pub yes : (t : Bool) → t ≡ true → one_if t ≡ 1
yes t e = ap one_if e

pub no : (t : Bool) → t ≡ false → one_if t ≡ 0
no t e = ap one_if e

-- ---- how often a piece is among parts

unfoldable pub occurs : ℕ → List Part → ℕ
occurs k [] = 0
occurs k (p ∷ ps) = one_if (is_piece k p) + occurs k ps

-- no piece is there twice
pub record AreSingle (ps : List Part) : Type 0 where
  pub once : (k : ℕ) → occurs k ps ≤ 1

pub single_rest : (p : Part) (ps : List Part) → AreSingle (p ∷ ps) → AreSingle ps
unfolding occurs
single_rest p ps s = record { once = λ k. omega (arith, s.once k) }

-- the first of parts
abbrev pub first_part : List Part → Option Part
first_part [] = None
first_part (p ∷ ps) = Some p

-- what stands behind the piece of the site of index k
unfoldable pub behind : ℕ → List Part → Option Part
behind k [] = None
behind k (p ∷ ps) = cond (is_piece k p) (first_part ps) (behind k ps)

-- ---- lengths and places

pub parts_len-append : (lens : List ℕ) (ps qs : List Part) → parts_len lens (ps ++ qs) ≡ parts_len lens ps + parts_len lens qs
unfolding parts_len
parts_len-append lens [] qs = omega arith
parts_len-append lens (p ∷ ps) qs = omega (arith, parts_len-append lens ps qs)

pub placed-append : (lens : List ℕ) (here : ℕ) (ps qs : List Part) → placed lens here (ps ++ qs) ≡ placed lens here ps ++ placed lens (here + parts_len lens ps) qs
unfolding placed parts_len
placed-append lens here [] qs = let e : here ≡ here + 0 = omega arith in ap (λ n. placed lens n qs) e
placed-append lens here (p ∷ ps) qs =
    let e : here + part_len lens p + parts_len lens ps ≡ here + (part_len lens p + parts_len lens ps) = omega arith in
    ap (λ (l : List (ℕ × Part)). (here, p) ∷ l) (placed-append lens (here + part_len lens p) ps qs ∙ ap (λ n. placed lens (here + part_len lens p) ps ++ placed lens n qs) e)

pub place_or-append : (none : ℕ) (qs rs : List (ℕ × Part)) (k : ℕ) → place_or none (qs ++ rs) k ≡ place_or (place_or none qs k) rs k
unfolding place_or
place_or-append none [] rs k = refl
place_or-append none (q ∷ qs) rs k = place_or-append (cond (is_piece k q.1) q.0 none) qs rs k

-- a piece that isn't there has no place
pub place_absent : (lens : List ℕ) (ps : List Part) (here none k : ℕ) → occurs k ps ≡ 0 → place_or none (placed lens here ps) k ≡ none
unfolding occurs placed place_or
place_absent lens [] here none k e = refl
place_absent lens (p ∷ ps) here none k e =
    elim (cases_Bool (is_piece k p)) [
      | inl t ↦ let one : one_if (is_piece k p) ≡ 1 = yes (is_piece k p) t in absurd (omega (arith, e, one))
      | inr t ↦
          ap (λ (u : Bool). place_or (cond u here none) (placed lens (here + part_len lens p) ps) k) t
          ∙ place_absent lens ps (here + part_len lens p) none k (omega (arith, e))
    ]

-- the place of one that is at the front, and nowhere else
pub place_first : (lens : List ℕ) (p : Part) (ps : List Part) (here none k : ℕ) → is_piece k p ≡ true → occurs k (p ∷ ps) ≤ 1 → place_or none (placed lens here (p ∷ ps)) k ≡ here
unfolding occurs placed place_or
place_first lens p ps here none k t once =
    let one : one_if (is_piece k p) ≡ 1 = yes (is_piece k p) t in
    ap (λ (u : Bool). place_or (cond u here none) (placed lens (here + part_len lens p) ps) k) t
    ∙ place_absent lens ps (here + part_len lens p) here k (omega (arith, once, one))

-- a part in front that is another changes no place
pub place_later : (lens : List ℕ) (p : Part) (ps : List Part) (here none k : ℕ) → is_piece k p ≡ false → place_or none (placed lens here (p ∷ ps)) k ≡ place_or none (placed lens (here + part_len lens p) ps) k
unfolding placed place_or
place_later lens p ps here none k t = ap (λ (u : Bool). place_or (cond u here none) (placed lens (here + part_len lens p) ps) k) t

-- where a piece stands that is there, whatever is said of one that isn't
pub record HasPlace (lens : List ℕ) (here : ℕ) (ps : List Part) (k : ℕ) : Type 0 where
  pub off : ℕ
  pub place : (none : ℕ) → place_or none (placed lens here ps) k ≡ here + off
  pub room : off + slice_index lens k ≤ parts_len lens ps

is_index : (k : ℕ) (p : Part) → is_piece k p ≡ true → p ≡ Piece k
is_index k (Piece j) t = ap (λ n. Piece n) (eqb-true j k t)
is_index k (Join to) t = absurd (cc t)

pub piece_len_is : (lens : List ℕ) (k : ℕ) (p : Part) → is_piece k p ≡ true → part_len lens p ≡ slice_index lens k
piece_len_is lens k p t = ap (part_len lens) (is_index k p t)

pub has_place : (lens : List ℕ) (ps : List Part) (here k : ℕ) → AreSingle ps → 0 < occurs k ps → HasPlace lens here ps k
unfolding occurs parts_len
has_place lens [] here k single some = absurd (omega (arith, some))
has_place lens (p ∷ ps) here k single some =
    elim (cases_Bool (is_piece k p)) [
      | inl t ↦ record {
        off = 0;
        place = λ none. place_first lens p ps here none k t (single.once k) ∙ omega arith;
        room = omega (arith, piece_len_is lens k p t);
      }
      | inr t ↦
          let zero_here : one_if (is_piece k p) ≡ 0 = no (is_piece k p) t in
          let w = has_place lens ps (here + part_len lens p) k (single_rest p ps single) (omega (arith, some, zero_here)) in
          record {
            off = part_len lens p + w.off;
            place = λ none. place_later lens p ps here none k t ∙ (w.place none ∙ omega arith);
            room = omega (arith, w.room);
          }
    ]

-- pieces of different sites stand apart
pub places_apart : (lens : List ℕ) (ps : List Part) (here k j none : ℕ) → AreSingle ps → 0 < occurs k ps → 0 < occurs j ps → (k ≡ j → ⊥)
    → (place_or none (placed lens here ps) k + slice_index lens k ≤ place_or none (placed lens here ps) j) ⊎ (place_or none (placed lens here ps) j + slice_index lens j ≤ place_or none (placed lens here ps) k)
unfolding occurs parts_len
places_apart lens [] here k j none single some_k some_j ne = absurd (omega (arith, some_k))
places_apart lens (p ∷ ps) here k j none single some_k some_j ne =
    elim (cases_Bool (is_piece k p)) [
      | inl t ↦ elim (cases_Bool (is_piece j p)) [
        | inl u ↦ absurd (ne (same_index (sym (is_index k p t) ∙ is_index j p u)))
        | inr u ↦
            let later : one_if (is_piece j p) ≡ 0 = no (is_piece j p) u in
            let w = has_place lens ps (here + part_len lens p) j (single_rest p ps single) (omega (arith, some_j, later)) in
            inl (omega (arith, place_first lens p ps here none k t (single.once k), place_later lens p ps here none j u, w.place none, piece_len_is lens k p t))
      ]
      | inr t ↦
          let later_k : one_if (is_piece k p) ≡ 0 = no (is_piece k p) t in
          elim (cases_Bool (is_piece j p)) [
            | inl u ↦
                let w = has_place lens ps (here + part_len lens p) k (single_rest p ps single) (omega (arith, some_k, later_k)) in
                inr (omega (arith, place_first lens p ps here none j u (single.once j), place_later lens p ps here none k t, w.place none, piece_len_is lens j p u))
            | inr u ↦
                let later_j : one_if (is_piece j p) ≡ 0 = no (is_piece j p) u in
                let both = places_apart lens ps (here + part_len lens p) k j none (single_rest p ps single) (omega (arith, some_k, later_k)) (omega (arith, some_j, later_j)) ne in
                let ek = place_later lens p ps here none k t in
                let ej = place_later lens p ps here none j u in
                elim both [ inl h ↦ inl (omega (arith, h, ek, ej)) | inr h ↦ inr (omega (arith, h, ek, ej)) ]
          ]
    ]
  where
    same_index : {a c : ℕ} → Piece a ≡ Piece c → a ≡ c
    same_index e = cc e

-- a piece that is first, or behind another, is there, so the part in front is another
first_occurs : (j : ℕ) (qs : List Part) → first_part qs ≡ Some (Piece j) → 0 < occurs j qs
unfolding occurs
first_occurs j [] h = absurd (none-some (Piece j) h)
first_occurs j (q ∷ qs) h =
    let one : one_if (is_piece j q) ≡ 1 = yes (is_piece j q) (ap (is_piece j) (same_Some q (Piece j) h) ∙ eq-eqb j j refl) in
    omega (arith, one)

behind_occurs : (k j : ℕ) (qs : List Part) → behind k qs ≡ Some (Piece j) → 0 < occurs j qs
unfolding behind occurs
behind_occurs k j [] h = absurd (none-some (Piece j) h)
behind_occurs k j (q ∷ qs) h =
    elim (cases_Bool (is_piece k q)) [
      | inl t ↦ omega (arith, first_occurs j qs (sym (ap (λ (u : Bool). cond u (first_part qs) (behind k qs)) t) ∙ h))
      | inr t ↦ omega (arith, behind_occurs k j qs (sym (ap (λ (u : Bool). cond u (first_part qs) (behind k qs)) t) ∙ h))
    ]

other_front : (j : ℕ) (p : Part) (ps : List Part) → AreSingle (p ∷ ps) → 0 < occurs j ps → is_piece j p ≡ false
unfolding occurs
other_front j p ps single some =
    elim (cases_Bool (is_piece j p)) [
      | inl t ↦ let one : one_if (is_piece j p) ≡ 1 = yes (is_piece j p) t in absurd (omega (arith, single.once j, some, one))
      | inr t ↦ t
    ]

-- ---- what stands there

module _ (lens : List ℕ) (bytes : ℕ → Part → List ℕ) (sized : (here : ℕ) (p : Part) → length (bytes here p) ≡ part_len lens p) where
  pub code_at : ℕ → List Part → List ℕ
  code_at here ps = bytes_of bytes (placed lens here ps)

  pub length-code_at : (ps : List Part) (here : ℕ) → length (bytes_of bytes (placed lens here ps)) ≡ parts_len lens ps
  unfolding placed parts_len
  length-code_at [] here = refl
  length-code_at (p ∷ ps) here =
      omega (arith, length-append (bytes here p) (bytes_of bytes (placed lens (here + part_len lens p) ps)), sized here p, length-code_at ps (here + part_len lens p))

  -- the piece stands at its place, and behind it what is behind it among the parts
  pub record Standing (here : ℕ) (ps : List Part) (k : ℕ) : Type 0 where
    pub off : ℕ
    pub place : (none : ℕ) → place_or none (placed lens here ps) k ≡ here + off
    pub stands : Stands (bytes_of bytes (placed lens here ps)) off (bytes (here + off) (Piece k))
    pub joins : (to : ℕ) → behind k ps ≡ Some (Join to) → Stands (bytes_of bytes (placed lens here ps)) (off + slice_index lens k) (bytes (here + off + slice_index lens k) (Join to))
    pub goes_on : (j : ℕ) → behind k ps ≡ Some (Piece j) → (none : ℕ) → place_or none (placed lens here ps) j ≡ here + off + slice_index lens k

  front_stands : (here : ℕ) (p : Part) (ps : List Part) → Stands (bytes_of bytes (placed lens here (p ∷ ps))) 0 (bytes here p)
  unfolding placed
  front_stands here p ps = stands_left (bytes here p) (bytes_of bytes (placed lens (here + part_len lens p) ps)) (bytes here p) 0 (stands_whole (bytes here p))

  later_stands : (here : ℕ) (p : Part) (ps : List Part) (off : ℕ) (part : List ℕ) → Stands (bytes_of bytes (placed lens (here + part_len lens p) ps)) off part → Stands (bytes_of bytes (placed lens here (p ∷ ps))) (part_len lens p + off) part
  unfolding placed
  later_stands here p ps off part s = stands_right (bytes here p) (bytes_of bytes (placed lens (here + part_len lens p) ps)) part (part_len lens p) off (sized here p) s

  -- a join that is first
  first_joins : (here to : ℕ) (ps : List Part) → first_part ps ≡ Some (Join to) → Stands (bytes_of bytes (placed lens here ps)) 0 (bytes here (Join to))
  first_joins here to [] e = absurd (none-some (Join to) e)
  first_joins here to (p ∷ ps) e = subst (λ (q : Part). Stands (bytes_of bytes (placed lens here (p ∷ ps))) 0 (bytes here q)) (same_Some p (Join to) e) (front_stands here p ps)

  -- a piece that is first
  first_goes : (here j none : ℕ) (ps : List Part) → AreSingle ps → first_part ps ≡ Some (Piece j) → place_or none (placed lens here ps) j ≡ here
  first_goes here j none [] single e = absurd (none-some (Piece j) e)
  first_goes here j none (p ∷ ps) single e =
      let same : is_piece j p ≡ true = ap (is_piece j) (same_Some p (Piece j) e) ∙ eq-eqb j j refl in
      place_first lens p ps here none j same (single.once j)

  standing_first : (p : Part) (ps : List Part) (here k : ℕ) → is_piece k p ≡ true → AreSingle (p ∷ ps) → Standing here (p ∷ ps) k
  unfolding behind
  standing_first p ps here k t single =
      let start : here + 0 ≡ here = omega arith in
      let is = is_index k p t in
      let len = piece_len_is lens k p t in
      let next : first_part ps ≡ behind k (p ∷ ps) = sym (ap (λ (u : Bool). cond u (first_part ps) (behind k ps)) t) in
      let place_there : here + part_len lens p ≡ here + 0 + slice_index lens k = omega (arith, len) in
      let off_there : part_len lens p + 0 ≡ 0 + slice_index lens k = omega (arith, len) in
      record {
        off = 0;
        place = λ none. place_first lens p ps here none k t (single.once k) ∙ omega arith;
        stands = subst (λ n. Stands (bytes_of bytes (placed lens here (p ∷ ps))) 0 (bytes n (Piece k))) (sym start)
            (subst (λ (q : Part). Stands (bytes_of bytes (placed lens here (p ∷ ps))) 0 (bytes here q)) is (front_stands here p ps));
        joins = λ to e.
            subst (λ n. Stands (bytes_of bytes (placed lens here (p ∷ ps))) n (bytes (here + 0 + slice_index lens k) (Join to))) off_there
            (subst (λ n. Stands (bytes_of bytes (placed lens here (p ∷ ps))) (part_len lens p + 0) (bytes n (Join to))) place_there
            (later_stands here p ps 0 (bytes (here + part_len lens p) (Join to)) (first_joins (here + part_len lens p) to ps (next ∙ e))));
        goes_on = λ j e none.
            place_later lens p ps here none j (other_front j p ps single (first_occurs j ps (next ∙ e))) ∙ (first_goes (here + part_len lens p) j none ps (single_rest p ps single) (next ∙ e) ∙ place_there);
      }

  pub standing : (ps : List Part) (here k : ℕ) → AreSingle ps → 0 < occurs k ps → Standing here ps k
  unfolding occurs behind
  standing [] here k single some = absurd (omega (arith, some))
  standing (p ∷ ps) here k single some =
      elim (cases_Bool (is_piece k p)) [
        | inl t ↦ standing_first p ps here k t single
        | inr t ↦
            let zero_here : one_if (is_piece k p) ≡ 0 = no (is_piece k p) t in
            let next : behind k (p ∷ ps) ≡ behind k ps = ap (λ (u : Bool). cond u (first_part ps) (behind k ps)) t in
            let rest = single_rest p ps single in
            let w = standing ps (here + part_len lens p) k rest (omega (arith, some, zero_here)) in
            let moved : here + part_len lens p + w.off ≡ here + (part_len lens p + w.off) = omega arith in
            let moved_on : here + part_len lens p + w.off + slice_index lens k ≡ here + (part_len lens p + w.off) + slice_index lens k = omega arith in
            let off_on : part_len lens p + (w.off + slice_index lens k) ≡ part_len lens p + w.off + slice_index lens k = omega arith in
            record {
              off = part_len lens p + w.off;
              place = λ none. place_later lens p ps here none k t ∙ (w.place none ∙ moved);
              stands = subst (λ n. Stands (bytes_of bytes (placed lens here (p ∷ ps))) (part_len lens p + w.off) (bytes n (Piece k))) moved
                  (later_stands here p ps w.off (bytes (here + part_len lens p + w.off) (Piece k)) w.stands);
              joins = λ to e.
                  subst (λ n. Stands (bytes_of bytes (placed lens here (p ∷ ps))) n (bytes (here + (part_len lens p + w.off) + slice_index lens k) (Join to))) off_on
                  (subst (λ n. Stands (bytes_of bytes (placed lens here (p ∷ ps))) (part_len lens p + (w.off + slice_index lens k)) (bytes n (Join to))) moved_on
                  (later_stands here p ps (w.off + slice_index lens k) (bytes (here + part_len lens p + w.off + slice_index lens k) (Join to)) (w.joins to (sym next ∙ e))));
              goes_on = λ j e none. place_later lens p ps here none j (other_front j p ps single (behind_occurs k j ps (sym next ∙ e))) ∙ (w.goes_on j (sym next ∙ e) none ∙ moved_on);
            }
      ]
