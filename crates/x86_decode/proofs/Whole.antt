-- The scan of whole bytes, by their prefixes and what follows them; and what decoding makes of it.
use Rattle.std.proofs.Common.{◌≡◌, ℕ, zero, suc, ◌≤◌, min, Bool, true, false, List, [], ◌∷◌, ◌++◌, length, take, drop, Option, Some, None, refl, sym, subst, ◌∙◌, ap, ap₂, inl, inr, arith, take_all, length-append, length-take, take-append-drop, rules}
use Rattle.std.specs.Prelude.{IsSome}
use Rattle.std.proofs.Math.Seq.{take-append_seam}
use Rattle.std.proofs.lemmas.Bool.{cases_lt}
use Rattle.std.proofs.lemmas.Bool.Decides.{leb_tells}
use Rattle.mv_base.specs.Bytes.{AreBytes}
use Rattle.x86_insn.specs.declared.insn.Insn.{Insn}
use Rattle.x86_insn.specs.declared.row.Marks.{Marks}
use Rattle.x86_insn.specs.Prefixes.{may_stand_together, marks_of}
use Rattle.x86_insn.specs.Rows.{rows}
use Rattle.x86_insn.specs.Spelling.{front, body, are_bytes, spelled}
use Rattle.x86_insn.specs.Scanning.{Scan, Found, More, Nothing, later, scan, scan_rows}
use Rattle.x86_insn.specs.PrefixScan.{split}
use Rattle.x86_insn.specs.Laws.{bytes_tested, decoded_take, scan_found, scan_more, scan_exceeds, Exceeds, IsLong, long_none, long_ends, limited_of}
use Rattle.x86_decode.specs.Candidates.{rows_behind, scan_rest}
use Rattle.x86_decode.specs.Reading.{decided}
use Rattle.x86_decode.specs.Decoding.{IsDecoded, BeginsSpelling}
use Rattle.x86_decode.specs.declared.decoding.Decoded.{Decoded}
use Rattle.x86_decode.specs.declared.decoding.Decoded.TheVariants as decoded_as
use Rattle.x86_decode.proofs.Behind.{rest_of_table}

pub front_short : (b : List ℕ) → length (front b) ≤ length b
front_short b = omega (arith, ap length (split b), length-append (front b) (body b))

front_taken : (b : List ℕ) → take (length (front b)) b ≡ front b
front_taken b = ap (take (length (front b))) (sym (split b)) ∙ take-append_seam (front b) (body b)

same_rest : (xs ys zs : List ℕ) → xs ++ ys ≡ xs ++ zs → ys ≡ zs
same_rest [] ys zs h = h
same_rest (x ∷ xs) ys zs h = same_rest xs ys zs (cc h)

body_dropped : (b : List ℕ) → drop (length (front b)) b ≡ body b
body_dropped b = same_rest (front b) _ _ (ap (λ (l : List ℕ). l ++ drop (length (front b)) b) (sym (front_taken b)) ∙ take-append-drop (length (front b)) b ∙ sym (split b))

pub scan_with : (b : List ℕ) (n : ℕ) (p q : List ℕ) (m : Marks) (a r : Scan) (t : Bool) → n ≡ length (front b) → p ≡ take n b → q ≡ drop n b → t ≡ may_stand_together p → t ≡ true → m ≡ marks_of p → a ≡ scan_rest (rows_behind []) m q → r ≡ later n a → r ≡ scan b
unfolding scan
scan_with b n p q m a r t en ep eq et holds em ea er =
    let fp : p ≡ front b = ep ∙ ap (λ (k : ℕ). take k b) en ∙ front_taken b in
    let bq : q ≡ body b = eq ∙ ap (λ (k : ℕ). drop k b) en ∙ body_dropped b in
    let test : may_stand_together (front b) ≡ true = ap may_stand_together (sym fp) ∙ sym et ∙ holds in
    let whole : a ≡ scan_rows rows (marks_of (front b)) (body b) = ea ∙ rest_of_table m q ∙ ap₂ (scan_rows rows) (em ∙ ap marks_of fp) bq in
    er ∙ ap₂ later en whole ∙ sym (ap (λ (v : Bool). elim v as (λ _. Scan) [ true ↦ later (length (front b)) (scan_rows rows (marks_of (front b)) (body b)) | false ↦ Nothing ]) test)

pub scan_without : (b : List ℕ) (n : ℕ) (p : List ℕ) (t : Bool) → n ≡ length (front b) → p ≡ take n b → t ≡ may_stand_together p → t ≡ false → Nothing ≡ scan b
unfolding scan
scan_without b n p t en ep et fails =
    let fp : p ≡ front b = ep ∙ ap (λ (k : ℕ). take k b) en ∙ front_taken b in
    let test : may_stand_together (front b) ≡ false = ap may_stand_together (sym fp) ∙ sym et ∙ fails in
    sym (ap (λ (v : Bool). elim v as (λ _. Scan) [ true ↦ later (length (front b)) (scan_rows rows (marks_of (front b)) (body b)) | false ↦ Nothing ]) test)

-- ---- decoding, by a scan of the first fifteen bytes

bytes_of_front : (n : ℕ) (s : List ℕ) → AreBytes s → AreBytes (take n s)
bytes_of_front zero s h k = omega arith
bytes_of_front (suc n) [] h k = omega arith
bytes_of_front (suc n) (x ∷ s) h zero = h 0
bytes_of_front (suc n) (x ∷ s) h (suc k) = bytes_of_front n s (λ j. h (suc j)) k

tested : (b : List ℕ) → AreBytes b → are_bytes (take 15 b) ≡ true
tested b h = bytes_tested (take 15 b) (bytes_of_front 15 b h)

take_limit : (b : List ℕ) (k : ℕ) → k ≡ min (length b) 15 → take k b ≡ take 15 b
take_limit b k q =
    elim (cases_lt (length b) 15) [
      | inl h ↦ take_all k b (omega arith) ∙ sym (take_all 15 b (omega arith))
      | inr h ↦ let e : k ≡ 15 = omega arith in ap (λ (n : ℕ). take n b) e
    ]

pub found_is : (b : List ℕ) (k : ℕ) (i : Insn) (n : ℕ) → AreBytes b → k ≡ min (length b) 15 → Found i n ≡ scan (take k b) → n ≤ 15 → IsDecoded b (decoded_as.Insn i n)
found_is b k i n h q e l =
    let w = scan_found (take 15 b) i n (tested b h) (sym (e ∙ ap scan (take_limit b k q))) l in
    (sym (decoded_take b) ∙ w.0, omega (arith, w.1, length-take {A = ℕ} 15 b))

is_some : (o : Option Insn) (i : Insn) → o ≡ Some i → IsSome o
is_some None i e = absurd (cc e)
is_some (Some j) i e = search rules

pub more_is : (b : List ℕ) (k : ℕ) (n : ℕ) → AreBytes b → k ≡ min (length b) 15 → More n ≡ scan (take k b) → n ≤ 15 → IsDecoded b decoded_as.Short
more_is b k n h q e l =
    let w = scan_more (take 15 b) n (tested b h) (sym (e ∙ ap scan (take_limit b k q))) l in
    let whole : take 15 b ≡ b = take_all 15 b (omega (arith, w.2, length-take {A = ℕ} 15 b)) in
    let v = w.1 in
    (sym (decoded_take b) ∙ w.0, (v.more, v.some, v.bytes, is_some _ v.insn (ap (λ (s : List ℕ). spelled (s ++ v.more)) (sym whole) ∙ v.spells)))

some_is : (o : Option Insn) → IsSome o → (i : Insn) × (o ≡ Some i)
some_is None h = absurd (cc h)
some_is (Some i) h = (i, refl)

pub unknown_is : (b : List ℕ) (k : ℕ) (r : Scan) → k ≡ min (length b) 15 → r ≡ scan (take k b) → Exceeds r → IsDecoded b decoded_as.Unknown
unknown_is b k r q e x =
    let long = scan_exceeds (take 15 b) r (sym (e ∙ ap scan (take_limit b k q))) x in
    (sym (decoded_take b) ∙ long_none (take 15 b) long, never long)
  where
    never : IsLong (take 15 b) → BeginsSpelling b → ⊥
    never long w =
        let s = some_is (spelled (b ++ w.0)) w.3 in
        let v = limited_of (b ++ w.0) s.0 s.1 in
        let whole : take 15 b ≡ b = take_all 15 b (omega (arith, v.limit, length-append b w.0)) in
        long_ends (take 15 b) w.0 s.0 long (ap (λ (t : List ℕ). spelled (t ++ w.0)) whole ∙ s.1)

-- ---- the same by what stands behind the prefixes

pub decided_is : (b : List ℕ) (k : ℕ) (r : Scan) → AreBytes b → k ≡ min (length b) 15 → r ≡ scan (take k b) → IsDecoded b (decided r)
decided_is b k (Found i n) h q e =
    elim (leb_tells n 15) [
      | inl w ↦ subst (λ (v : Bool). IsDecoded b (elim v as (λ _. Decoded) [ true ↦ decoded_as.Insn i n | false ↦ decoded_as.Unknown ])) (sym w.0) (found_is b k i n h q e w.1)
      | inr w ↦ subst (λ (v : Bool). IsDecoded b (elim v as (λ _. Decoded) [ true ↦ decoded_as.Insn i n | false ↦ decoded_as.Unknown ])) (sym w.0) (unknown_is b k (Found i n) q e w.1)
    ]
decided_is b k (More n) h q e =
    elim (leb_tells n 15) [
      | inl w ↦ subst (λ (v : Bool). IsDecoded b (elim v as (λ _. Decoded) [ true ↦ decoded_as.Short | false ↦ decoded_as.Unknown ])) (sym w.0) (more_is b k n h q e w.1)
      | inr w ↦ subst (λ (v : Bool). IsDecoded b (elim v as (λ _. Decoded) [ true ↦ decoded_as.Short | false ↦ decoded_as.Unknown ])) (sym w.0) (unknown_is b k (More n) q e w.1)
    ]
decided_is b k Nothing h q e = unknown_is b k Nothing q e tt

-- the facts that the prefixes of the first fifteen bytes are split off with, and what the rest comes to
pub behind_prefixes : (b : List ℕ) (n : ℕ) (p q : List ℕ) (m : Marks) (t : Bool) → n ≡ length (front b) → p ≡ take n b → q ≡ drop n b → t ≡ may_stand_together p → t ≡ true → m ≡ marks_of p → later n (scan_rest (rows_behind []) m q) ≡ scan b
behind_prefixes b n p q m t en ep eq et holds em = scan_with b n p q m _ _ t en ep eq et holds em refl refl
