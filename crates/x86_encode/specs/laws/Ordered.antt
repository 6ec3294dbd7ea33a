-- The order of byte lists is total, and goes with joining lists.
use Rattle.std.proofs.Common.{◌≡◌, ℕ, ◌<◌, Bool, true, false, List, [], ◌∷◌, ◌++◌, length, refl, sym, ◌∙◌, ap, inl, inr, arith}
use Rattle.std.specs.declared.cmp.Ordering.{Ordering}
use Rattle.std.specs.declared.cmp.Ordering.TheVariants.{Less, Equal, Greater}
use Rattle.std.specs.Ordering.{is_le, nat_cmp, ordering_then}
use Rattle.std.specs.Cmp.Lexicographic.{slice_cmp}
use Rattle.std.proofs.lemmas.Bool.{cases_order, lt-ltb, le-ltb, eq-eqb, ne_eqb}
use Rattle.std.proofs.lemmas.List.{length-append}
use Rattle.x86_encode.specs.Order.{ByteUpto, Upto, is_byte_upto, is_upto}

pub byte_self : (s : List ℕ) → ByteUpto s s
byte_self [] = tt
byte_self (x ∷ s) = inr (refl, byte_self s)

pub upto_self : (s : List ℕ) → Upto s s
upto_self s = inr (refl, byte_self s)

pub upto_same : (s t : List ℕ) → s ≡ t → Upto s t
upto_same s t e = rw e (upto_self t)

byte_chain : (s t u : List ℕ) → ByteUpto s t → ByteUpto t u → ByteUpto s u
byte_chain [] t u h k = tt
byte_chain (x ∷ s) [] u h k = absurd h
byte_chain (x ∷ s) (y ∷ t) [] h k = absurd k
byte_chain (x ∷ s) (y ∷ t) (z ∷ u) h k =
    elim h [
      | inl p ↦ elim k [
        | inl q ↦ inl (omega arith)
        | inr q ↦ inl (omega (arith, q.0))
      ]
      | inr p ↦ elim k [
        | inl q ↦ inl (omega (arith, p.0))
        | inr q ↦ inr (omega (arith, p.0, q.0), byte_chain s t u p.1 q.1)
      ]
    ]

pub upto_chain : (s t u : List ℕ) → Upto s t → Upto t u → Upto s u
upto_chain s t u h k =
    elim h [
      | inl p ↦ elim k [
        | inl q ↦ inl (omega arith)
        | inr q ↦ inl (omega (arith, q.0))
      ]
      | inr p ↦ elim k [
        | inl q ↦ inl (omega (arith, p.0))
        | inr q ↦ inr (omega (arith, p.0, q.0), byte_chain s t u p.1 q.1)
      ]
    ]

byte_both : (s t : List ℕ) → length s ≡ length t → ByteUpto s t → ByteUpto t s → s ≡ t
byte_both [] [] l h k = refl
byte_both [] (y ∷ t) l h k = absurd k
byte_both (x ∷ s) [] l h k = absurd h
byte_both (x ∷ s) (y ∷ t) l h k =
    elim h [
      | inl p ↦ elim k [
        | inl q ↦ absurd (omega arith)
        | inr q ↦ absurd (omega (arith, q.0))
      ]
      | inr p ↦ elim k [
        | inl q ↦ absurd (omega (arith, p.0))
        | inr q ↦ let e = byte_both s t (omega arith) p.1 q.1 in cc (e, p.0)
      ]
    ]

pub upto_both : (s t : List ℕ) → Upto s t → Upto t s → s ≡ t
upto_both s t h k =
    elim h [
      | inl p ↦ elim k [
        | inl q ↦ absurd (omega arith)
        | inr q ↦ absurd (omega (arith, q.0))
      ]
      | inr p ↦ elim k [
        | inl q ↦ absurd (omega (arith, p.0))
        | inr q ↦ byte_both s t p.0 p.1 q.1
      ]
    ]

-- ---- joined lists

byte_joined : (s s' t t' : List ℕ) → length s ≡ length s' → ByteUpto s s' → ByteUpto t t' → ByteUpto (s ++ t) (s' ++ t')
byte_joined [] [] t t' l h k = k
byte_joined [] (y ∷ s') t t' l h k = absurd (omega arith)
byte_joined (x ∷ s) [] t t' l h k = absurd h
byte_joined (x ∷ s) (y ∷ s') t t' l h k =
    elim h [
      | inl p ↦ inl p
      | inr p ↦ inr (p.0, byte_joined s s' t t' (omega arith) p.1 k)
    ]

pub upto_joined : (s s' t t' : List ℕ) → Upto s s' → Upto t t' → Upto (s ++ t) (s' ++ t')
upto_joined s s' t t' h k =
    elim h [
      | inl p ↦ elim k [
        | inl q ↦ inl (omega (arith, length-append s t, length-append s' t'))
        | inr q ↦ inl (omega (arith, q.0, length-append s t, length-append s' t'))
      ]
      | inr p ↦ elim k [
        | inl q ↦ inl (omega (arith, p.0, length-append s t, length-append s' t'))
        | inr q ↦ inr (omega (arith, p.0, q.0, length-append s t, length-append s' t'), byte_joined s s' t t' p.0 p.1 q.1)
      ]
    ]

-- ---- the test

-- what a test says of two lists, one way or the other
abbrev pub Decided : Bool → Type 0 → Type 0 → Type 0
Decided true p q = p
Decided false p q = q

by_same : (x y : ℕ) (s t : List ℕ) (v : Bool) → x ≡ y → Decided v (ByteUpto s t) (ByteUpto t s) → Decided v (ByteUpto (x ∷ s) (y ∷ t)) (ByteUpto (y ∷ t) (x ∷ s))
by_same x y s t true e h = inr (e, h)
by_same x y s t false e h = inr (sym e, h)

by_less : (x y : ℕ) (s t : List ℕ) (v : Bool) → true ≡ v → x < y → Decided v (ByteUpto (x ∷ s) (y ∷ t)) (ByteUpto (y ∷ t) (x ∷ s))
by_less x y s t true e h = inl h
by_less x y s t false e h = absurd (cc e)

by_greater : (x y : ℕ) (s t : List ℕ) (v : Bool) → false ≡ v → y < x → Decided v (ByteUpto (x ∷ s) (y ∷ t)) (ByteUpto (y ∷ t) (x ∷ s))
by_greater x y s t true e h = absurd (cc e)
by_greater x y s t false e h = inl h

first_differs : (o : Ordering) (x y : ℕ) (s t : List ℕ) → nat_cmp x y ≡ o → is_byte_upto (x ∷ s) (y ∷ t) ≡ is_le (ordering_then o (slice_cmp nat_cmp s t))
first_differs o x y s t e = ap (λ (p : Ordering). is_le (ordering_then p (slice_cmp nat_cmp s t))) e

byte_test : (s t : List ℕ) → length s ≡ length t → (v : Bool) → is_byte_upto s t ≡ v → Decided v (ByteUpto s t) (ByteUpto t s)
byte_test [] [] l true e = tt
byte_test [] [] l false e = absurd (cc e)
byte_test [] (y ∷ t) l v e = absurd (omega arith)
byte_test (x ∷ s) [] l v e = absurd (omega arith)
byte_test (x ∷ s) (y ∷ t) l v e =
    elim (cases_order x y) [
      | inl p ↦
          let o : nat_cmp x y ≡ Equal = rw (le-ltb x y (omega arith), eq-eqb x y p) refl in
          by_same x y s t v p (byte_test s t (omega arith) v (sym (first_differs Equal x y s t o) ∙ e))
      | inr p ↦ elim p [
        | inl q ↦
            let o : nat_cmp x y ≡ Less = rw (lt-ltb x y q) refl in
            by_less x y s t v (sym (first_differs Less x y s t o) ∙ e) q
        | inr q ↦
            let o : nat_cmp x y ≡ Greater = rw (le-ltb x y (omega arith), ne_eqb x y (λ e. omega arith)) refl in
            by_greater x y s t v (sym (first_differs Greater x y s t o) ∙ e) q
      ]
    ]

by_length : (s t : List ℕ) (v : Bool) → length s ≡ length t → Decided v (ByteUpto s t) (ByteUpto t s) → Decided v (Upto s t) (Upto t s)
by_length s t true e h = inr (e, h)
by_length s t false e h = inr (sym e, h)

shorter : (s t : List ℕ) (v : Bool) → true ≡ v → length s < length t → Decided v (Upto s t) (Upto t s)
shorter s t true e h = inl h
shorter s t false e h = absurd (cc e)

longer : (s t : List ℕ) (v : Bool) → false ≡ v → length t < length s → Decided v (Upto s t) (Upto t s)
longer s t true e h = absurd (cc e)
longer s t false e h = inl h

pub upto_test : (s t : List ℕ) (v : Bool) → is_upto s t ≡ v → Decided v (Upto s t) (Upto t s)
upto_test s t v e =
    elim (cases_order (length s) (length t)) [
      | inl p ↦
          let same : is_upto s t ≡ is_byte_upto s t = rw (le-ltb (length s) (length t) (omega arith), eq-eqb (length s) (length t) p) refl in
          by_length s t v p (byte_test s t p v (sym same ∙ e))
      | inr p ↦ elim p [
        | inl q ↦
            let test : is_upto s t ≡ true = rw (lt-ltb (length s) (length t) q) refl in
            shorter s t v (sym test ∙ e) q
        | inr q ↦
            let test : is_upto s t ≡ false = rw (le-ltb (length s) (length t) (omega arith), ne_eqb (length s) (length t) (λ e. omega arith)) refl in
            longer s t v (sym test ∙ e) q
      ]
    ]
