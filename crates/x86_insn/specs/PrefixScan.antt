-- The scan of whole instructions is right: prefixes are told from opcodes by their bytes, and more prefixes never make
-- what is missing shorter.
use Rattle.std.specs.Prelude.{◌≡◌, ℕ, ◌+◌, ◌≤◌, Bool, true, false, not, ◌&&◌, ◌||◌, ◌⊎◌, List, [], ◌∷◌, ◌++◌, length, take, count_by, cond, Option, Some, None, refl, nat_eq, nat_le, nat_lt}
use Rattle.std.proofs.Common.{sym, ◌∙◌, ap, ap₂, subst, inl, inr, arith, append-nil, append_assoc}
use Rattle.std.proofs.lemmas.Bool.{leb-true, le-leb, eqb-true}
use Rattle.std.proofs.lemmas.List.{length-append}
use Rattle.std.proofs.Math.Seq.{take-append-add}
use Rattle.std.proofs.lemmas.List.Sums.{sum_by-cons}
use Rattle.x86_insn.specs.declared.insn.Insn.{Insn}
use Rattle.x86_insn.specs.declared.insn.Rep.{Rep}
use Rattle.x86_insn.specs.declared.insn.Rep.TheVariants as rep
use Rattle.x86_insn.specs.declared.row.Form.{Form}
use Rattle.x86_insn.specs.declared.row.Row.{Row}
use Rattle.x86_insn.specs.declared.row.Marks.{Marks}
use Rattle.x86_insn.specs.Prefixes.{is_among, is_prefix, are_prefixes, at_most_one, may_stand_together, marks_of, rep_of, segments, locks_and_repeats}
use Rattle.x86_insn.specs.Rows.{rows}
use Rattle.x86_insn.specs.Spelling.{front, body, spelled_row, spelled_rows, takes_word, takes_repeat, takes_gs}
use Rattle.x86_insn.specs.Scanning.{Scan, Found, More, Nothing, later, scan_rows, scan, Agree, IsScan}
use Rattle.x86_insn.specs.Agreeing.{chosen, both_true, and_true, true_not_false, or_cases}
use Rattle.x86_insn.specs.Scanned.{Speller, agree_nil}
use Rattle.x86_insn.specs.OperandScan.{fits_of}
use Rattle.x86_insn.specs.RowScan.{pattern, Begins, row_parts, rows_scan}

-- what all of a list spells, without the limit of 15 bytes
abbrev pub unlimited : Speller
unlimited s =
    elim (may_stand_together (front s)) [
      | true ↦ spelled_rows rows (marks_of (front s)) (body s)
      | false ↦ None
    ]

-- ---- the first byte of a row is no prefix

abbrev pub outside : List (ℕ × ℕ) → ℕ → Bool
outside [] b = false
outside (x ∷ p) b = nat_lt b x.0 || nat_le (x.0 + x.1) b

abbrev pub all_outside : List (ℕ × ℕ) → List ℕ → Bool
all_outside p [] = true
all_outside p (b ∷ bs) = outside p b && all_outside p bs

abbrev pub no_prefix_begins : List Row → Bool
no_prefix_begins [] = true
no_prefix_begins (r ∷ rs) = all_outside (pattern r) (0x66 ∷ segments ++ locks_and_repeats) && no_prefix_begins rs

either_true : (a b : Bool) → (a || b) ≡ true → (a ≡ true) ⊎ (b ≡ true)
either_true true b h = inl refl
either_true false b h = inr h

outside_apart : (p : List (ℕ × ℕ)) (b : ℕ) (s : List ℕ) → outside p b ≡ true → Begins p (b ∷ s) → ⊥
outside_apart [] b s h k = absurd (cc h)
outside_apart (x ∷ p) b s h k =
    elim (either_true (nat_lt b x.0) _ h) [
      | inl e ↦ let l = leb-true _ _ e in omega (arith, l, k.0)
      | inr e ↦ let l = leb-true _ _ e in omega (arith, l, k.1)
    ]

among_outside : (p : List (ℕ × ℕ)) (bs : List ℕ) (b : ℕ) (s : List ℕ) → all_outside p bs ≡ true → Begins p (b ∷ s) → is_among bs b ≡ false
among_outside p [] b s h k = refl
among_outside p (x ∷ bs) b s h k = by_test (among_outside p bs b s (both_true (outside p x) (all_outside p bs) h).1 k) (nat_eq b x) refl
  where
    by_test : is_among bs b ≡ false → (v : Bool) → nat_eq b x ≡ v → (v || is_among bs b) ≡ false
    by_test rest true e =
        let w = both_true (outside p x) (all_outside p bs) h in
        let same : b ≡ x = eqb-true b x e in
        absurd (outside_apart p b s (ap (outside p) same ∙ w.0) k)
    by_test rest false e = rest

-- what rows spell begins with a byte that is no prefix
pub record Headed (s : List ℕ) : Type 0 where
  pub byte : ℕ
  pub rest : List ℕ
  pub parts : s ≡ byte ∷ rest
  pub plain : is_prefix byte ≡ false

nonempty_pattern : (lead : List (ℕ × ℕ)) (s : List ℕ) → Begins lead s → all_outside lead (0x66 ∷ segments ++ locks_and_repeats) ≡ true → Headed s
nonempty_pattern [] s h k = absurd (cc k)
nonempty_pattern (x ∷ p) [] h k = absurd h
nonempty_pattern (x ∷ p) (b ∷ s) h k = record { byte = b; rest = s; parts = refl; plain = among_outside (x ∷ p) (0x66 ∷ segments ++ locks_and_repeats) b s k h }

headed_by : (rs : List Row) (m : Marks) (s : List ℕ) (j : Insn) → no_prefix_begins rs ≡ true → spelled_rows rs m s ≡ Some j → Headed s
headed_by [] m s j h e = absurd (cc e)
headed_by (r ∷ rs) m s j h e =
    let w = both_true (all_outside (pattern r) (0x66 ∷ segments ++ locks_and_repeats)) (no_prefix_begins rs) h in
    elim (or_cases _ _ j e) [
      | inl p ↦ let v = row_parts r m s j p in nonempty_pattern (pattern r) s v.begins w.0
      | inr p ↦ headed_by rs m s j w.1 p
    ]

table_headed : no_prefix_begins rows ≡ true
unfolding rows
table_headed = refl

headed : (m : Marks) (s : List ℕ) (j : Insn) → spelled_rows rows m s ≡ Some j → Headed s
headed m s j e = headed_by rows m s j table_headed e

-- ---- prefixes and what follows them

front_yes : (c : ℕ) (s : List ℕ) → is_prefix c ≡ true → front (c ∷ s) ≡ c ∷ front s
front_yes c s e = ap (λ (t : Bool). elim t as (λ _. List ℕ) [ true ↦ c ∷ front s | false ↦ [] ]) e

front_no : (c : ℕ) (s : List ℕ) → is_prefix c ≡ false → front (c ∷ s) ≡ []
front_no c s e = ap (λ (t : Bool). elim t as (λ _. List ℕ) [ true ↦ c ∷ front s | false ↦ [] ]) e

body_yes : (c : ℕ) (s : List ℕ) → is_prefix c ≡ true → body (c ∷ s) ≡ body s
body_yes c s e = ap (λ (t : Bool). elim t as (λ _. List ℕ) [ true ↦ body s | false ↦ c ∷ s ]) e

body_no : (c : ℕ) (s : List ℕ) → is_prefix c ≡ false → body (c ∷ s) ≡ c ∷ s
body_no c s e = ap (λ (t : Bool). elim t as (λ _. List ℕ) [ true ↦ body s | false ↦ c ∷ s ]) e

prefix_step : (b : ℕ) (s t : List ℕ) → front s ++ body s ≡ t → s ≡ t → (elim (is_prefix b) [ true ↦ b ∷ front s | false ↦ [] ]) ++ (elim (is_prefix b) [ true ↦ body s | false ↦ b ∷ s ]) ≡ b ∷ s
prefix_step b s t e h = by_test (is_prefix b)
  where
    by_test : (v : Bool) → (elim v as (λ _. List ℕ) [ true ↦ b ∷ front s | false ↦ [] ]) ++ (elim v as (λ _. List ℕ) [ true ↦ body s | false ↦ b ∷ s ]) ≡ b ∷ s
    by_test true = ap (λ (u : List ℕ). b ∷ u) (e ∙ sym h)
    by_test false = refl

pub split : (s : List ℕ) → front s ++ body s ≡ s
split [] = refl
split (b ∷ s) = prefix_step b s s (split s) refl

pub front_are_prefixes : (s : List ℕ) → are_prefixes (front s) ≡ true
front_are_prefixes [] = refl
front_are_prefixes (b ∷ s) = by_test (front_are_prefixes s) (is_prefix b) refl
  where
    by_test : are_prefixes (front s) ≡ true → (v : Bool) → is_prefix b ≡ v → are_prefixes (elim v as (λ _. List ℕ) [ true ↦ b ∷ front s | false ↦ [] ]) ≡ true
    by_test rest true e = and_true _ _ e rest
    by_test rest false e = refl

-- prefixes, and then a byte that is none
pub front_of : (ps : List ℕ) (x : ℕ) (u : List ℕ) → are_prefixes ps ≡ true → is_prefix x ≡ false → front (ps ++ x ∷ u) ≡ ps
front_of [] x u h e = ap (λ (v : Bool). elim v as (λ _. List ℕ) [ true ↦ x ∷ front u | false ↦ [] ]) e
front_of (p ∷ ps) x u h e =
    let w = both_true (is_prefix p) (are_prefixes ps) h in
    ap (λ (v : Bool). elim v as (λ _. List ℕ) [ true ↦ p ∷ front (ps ++ x ∷ u) | false ↦ [] ]) w.0 ∙ ap (λ (t : List ℕ). p ∷ t) (front_of ps x u w.1 e)

pub body_of : (ps : List ℕ) (x : ℕ) (u : List ℕ) → are_prefixes ps ≡ true → is_prefix x ≡ false → body (ps ++ x ∷ u) ≡ x ∷ u
body_of [] x u h e = ap (λ (v : Bool). elim v as (λ _. List ℕ) [ true ↦ body u | false ↦ x ∷ u ]) e
body_of (p ∷ ps) x u h e =
    let w = both_true (is_prefix p) (are_prefixes ps) h in
    ap (λ (v : Bool). elim v as (λ _. List ℕ) [ true ↦ body (ps ++ x ∷ u) | false ↦ p ∷ (ps ++ x ∷ u) ]) w.0 ∙ body_of ps x u w.1 e

body_head : (b : List ℕ) (x : ℕ) (u : List ℕ) → body b ≡ x ∷ u → is_prefix x ≡ false
body_head [] x u h = absurd (cc h)
body_head (y ∷ b) x u h = by_test (body_head b x u) (is_prefix y) refl h
  where
    by_test : (body b ≡ x ∷ u → is_prefix x ≡ false) → (v : Bool) → is_prefix y ≡ v → (elim v as (λ _. List ℕ) [ true ↦ body b | false ↦ y ∷ b ]) ≡ x ∷ u → is_prefix x ≡ false
    by_test rec true e k = rec k
    by_test rec false e k = let same : y ≡ x = cc k in ap is_prefix (sym same) ∙ e

-- what agree have the same prefixes, where neither is prefixes alone
record SamePrefixes (s b : List ℕ) : Type 0 where
  fronts : front s ≡ front b
  bodies : Agree (body s) (body b)

same_prefixes : (s b : List ℕ) (y x : ℕ) (v u : List ℕ) → body s ≡ y ∷ v → body b ≡ x ∷ u → Agree s b → SamePrefixes s b
same_prefixes [] b y x v u e f a = absurd (cc e)
same_prefixes (c ∷ s) [] y x v u e f a = absurd (cc f)
same_prefixes (c ∷ s) (d ∷ b) y x v u e f a = by_test (λ p q. same_prefixes s b y x v u p q a.1) (is_prefix c) refl
  where
    by_test : (body s ≡ y ∷ v → body b ≡ x ∷ u → SamePrefixes s b) → (t : Bool) → is_prefix c ≡ t → SamePrefixes (c ∷ s) (d ∷ b)
    by_test rec true p =
        let q : is_prefix d ≡ true = ap is_prefix (sym a.0) ∙ p in
        let r = rec (sym (body_yes c s p) ∙ e) (sym (body_yes d b q) ∙ f) in
        record {
          fronts = front_yes c s p ∙ ap₂ (λ (z : ℕ) (l : List ℕ). z ∷ l) a.0 r.fronts ∙ sym (front_yes d b q);
          bodies = subst (Agree (body (c ∷ s))) (sym (body_yes d b q)) (subst (λ (l : List ℕ). Agree l (body b)) (sym (body_yes c s p)) r.bodies);
        }
    by_test rec false p =
        let q : is_prefix d ≡ false = ap is_prefix (sym a.0) ∙ p in
        record {
          fronts = front_no c s p ∙ sym (front_no d b q);
          bodies = subst (Agree (body (c ∷ s))) (sym (body_no d b q)) (subst (λ (l : List ℕ). Agree l (d ∷ b)) (sym (body_no c s p)) a);
        }

-- prefixes alone begin what has at least these prefixes
more_prefixes : (s b : List ℕ) (y : ℕ) (v : List ℕ) → body s ≡ y ∷ v → body b ≡ [] → Agree s b → (more : List ℕ) × (front s ≡ b ++ more)
more_prefixes s [] y v e f a = (front s, refl)
more_prefixes [] (d ∷ b) y v e f a = absurd (cc e)
more_prefixes (c ∷ s) (d ∷ b) y v e f a = by_test (λ p q. more_prefixes s b y v p q a.1) (is_prefix c) refl
  where
    by_test : (body s ≡ y ∷ v → body b ≡ [] → (more : List ℕ) × (front s ≡ b ++ more)) → (t : Bool) → is_prefix c ≡ t → (more : List ℕ) × (front (c ∷ s) ≡ (d ∷ b) ++ more)
    by_test rec true p =
        let q : is_prefix d ≡ true = ap is_prefix (sym a.0) ∙ p in
        let r = rec (sym (body_yes c s p) ∙ e) (sym (body_yes d b q) ∙ f) in
        (r.0, front_yes c s p ∙ ap₂ (λ (z : ℕ) (l : List ℕ). z ∷ l) a.0 r.1)
    by_test rec false p =
        let q : is_prefix d ≡ false = ap is_prefix (sym a.0) ∙ p in
        absurd (cc (sym (body_no d b q) ∙ f))

prefixes_alone : (b : List ℕ) → body b ≡ [] → front b ≡ b
prefixes_alone b e = sym (append-nil (front b)) ∙ ap (λ (u : List ℕ). front b ++ u) (sym e) ∙ split b

-- ---- fewer prefixes stand together where more do

among_more : (ps more : List ℕ) (x : ℕ) → is_among ps x ≡ true → is_among (ps ++ more) x ≡ true
among_more [] more x h = absurd (cc h)
among_more (p ∷ ps) more x h = by_test (among_more ps more x) (nat_eq x p) h
  where
    by_test : (is_among ps x ≡ true → is_among (ps ++ more) x ≡ true) → (v : Bool) → (v || is_among ps x) ≡ true → (v || is_among (ps ++ more) x) ≡ true
    by_test rec true e = refl
    by_test rec false e = rec e

one_at_most : (a b : Bool) → (a ≡ true → b ≡ true) → cond a 1 0 ≤ cond b 1 0
one_at_most true true h = omega arith
one_at_most true false h = absurd (cc (h refl))
one_at_most false b h = omega arith

count_first : (p : ℕ → Bool) (x : ℕ) (xs : List ℕ) → count_by p (x ∷ xs) ≡ cond (p x) 1 0 + count_by p xs
count_first p x xs = sum_by-cons (λ y. cond (p y) 1 0) x xs

count_more : (group ps more : List ℕ) → count_by (is_among ps) group ≤ count_by (is_among (ps ++ more)) group
count_more [] ps more = omega arith
count_more (x ∷ group) ps more =
    let here = one_at_most (is_among ps x) (is_among (ps ++ more) x) (among_more ps more x) in
    let there = count_more group ps more in
    omega (arith, here, there, count_first (is_among ps) x group, count_first (is_among (ps ++ more)) x group)

one_of_more : (group ps more : List ℕ) → at_most_one group (ps ++ more) ≡ true → at_most_one group ps ≡ true
one_of_more group ps more h = let l = leb-true _ _ h in let m = count_more group ps more in le-leb _ _ (omega (arith, l, m))

together_more : (ps more : List ℕ) → may_stand_together (ps ++ more) ≡ true → may_stand_together ps ≡ true
together_more ps more h =
    let w = both_true (at_most_one segments (ps ++ more)) _ h in
    and_true _ _ (one_of_more segments ps more w.0) (one_of_more locks_and_repeats ps more w.1)

-- ---- what prefixes alone lack

abbrev is_repeated : Rep → Bool
is_repeated rep.Once = false
is_repeated rep.F3 = true
is_repeated rep.F2 = true

-- no row takes 65 with a repeat prefix
abbrev pub one_of_both : Form → Bool
one_of_both f = not (takes_gs f) || not (takes_repeat f.repeat rep.F3 || takes_repeat f.repeat rep.F2)

abbrev pub all_one_of_both : List Row → Bool
all_one_of_both [] = true
all_one_of_both (r ∷ rs) = one_of_both r.form && all_one_of_both rs

table_one_of_both : all_one_of_both rows ≡ true
unfolding rows
table_one_of_both = refl

never_both : (f : Form) (p : Rep) → one_of_both f ≡ true → takes_gs f ≡ true → is_repeated p ≡ true → takes_repeat f.repeat p ≡ true → ⊥
never_both f rep.Once h g r t = absurd (cc r)
never_both f rep.F3 h g r t = by_tests (takes_gs f) (takes_repeat f.repeat rep.F3) (takes_repeat f.repeat rep.F2) h g t
  where
    by_tests : (x y z : Bool) → (not x || not (y || z)) ≡ true → x ≡ true → y ≡ true → ⊥
    by_tests true true z e u v = absurd (cc e)
    by_tests true false z e u v = absurd (cc v)
    by_tests false y z e u v = absurd (cc u)
never_both f rep.F2 h g r t = by_tests (takes_gs f) (takes_repeat f.repeat rep.F3) (takes_repeat f.repeat rep.F2) h g t
  where
    by_tests : (x y z : Bool) → (not x || not (y || z)) ≡ true → x ≡ true → z ≡ true → ⊥
    by_tests true true true e u v = absurd (cc e)
    by_tests true false true e u v = absurd (cc e)
    by_tests true y false e u v = absurd (cc v)
    by_tests false y z e u v = absurd (cc u)

row_never_both : (r : Row) (m : Marks) (s : List ℕ) (j : Insn) → one_of_both r.form ≡ true → m.gs ≡ true → is_repeated m.rep ≡ true → spelled_row r m s ≡ Some j → ⊥
row_never_both r m s j h g p e =
    let w = row_parts r m s j e in
    let f = fits_of r.form m w.opcode w.operands j w.spells in
    let v = both_true ((not m.word || takes_word r.form.size) && takes_repeat r.form.repeat m.rep && (not m.lock || r.form.lock)) _ f.marks in
    let u = both_true ((not m.word || takes_word r.form.size) && takes_repeat r.form.repeat m.rep) _ v.0 in
    let repeats = (both_true (not m.word || takes_word r.form.size) _ u.0).1 in
    let takes : takes_gs r.form ≡ true = ap (λ (x : Bool). not x || takes_gs r.form) (sym g) ∙ v.1 in
    never_both r.form m.rep h takes p repeats

rows_never_both : (rs : List Row) (m : Marks) (s : List ℕ) (j : Insn) → all_one_of_both rs ≡ true → m.gs ≡ true → is_repeated m.rep ≡ true → spelled_rows rs m s ≡ Some j → ⊥
rows_never_both [] m s j h g p e = absurd (cc e)
rows_never_both (r ∷ rs) m s j h g p e =
    let w = both_true (one_of_both r.form) (all_one_of_both rs) h in
    elim (or_cases _ _ j e) [
      | inl f ↦ row_never_both r m s j w.0 g p f
      | inr f ↦ rows_never_both rs m s j w.1 g p f
    ]

-- a repeat prefix among more prefixes
repeated_more : (ps more : List ℕ) → is_repeated (marks_of ps).rep ≡ true → is_repeated (marks_of (ps ++ more)).rep ≡ true
repeated_more ps more h = go (is_among ps 0xF3) refl (is_among ps 0xF2) refl h
  where
    second : (x : Bool) → is_repeated (rep_of x true) ≡ true
    second true = refl
    second false = refl

    go : (x : Bool) → is_among ps 0xF3 ≡ x → (y : Bool) → is_among ps 0xF2 ≡ y → is_repeated (rep_of x y) ≡ true → is_repeated (marks_of (ps ++ more)).rep ≡ true
    go true p y q r = ap (λ (x : Bool). is_repeated (rep_of x (is_among (ps ++ more) 0xF2))) (among_more ps more 0xF3 p)
    go false p true q r = ap (λ (x : Bool). is_repeated (rep_of (is_among (ps ++ more) 0xF3) x)) (among_more ps more 0xF2 q) ∙ second (is_among (ps ++ more) 0xF3)
    go false p false q r = absurd (cc r)

-- prefixes lack a byte or two, or no row takes them
abbrev LacksFew : Marks → Type 0
LacksFew m = (n : ℕ) × (scan_rows rows m [] ≡ More n) × (n ≤ 2)

abbrev Lacks : Marks → Type 0
Lacks m = LacksFew m ⊎ ((scan_rows rows m [] ≡ Nothing) × (m.gs ≡ true) × (is_repeated m.rep ≡ true))

lacks : (word gs lock f3 f2 : Bool) → nat_le (0 + cond lock 1 0 + cond f2 1 0 + cond f3 1 0) 1 ≡ true → Lacks (record { word = word; lock = lock; rep = rep_of f3 f2; gs = gs })
unfolding rows
lacks word gs true true true h = absurd (cc h)
lacks word gs true true false h = absurd (cc h)
lacks word gs false true true h = absurd (cc h)
lacks word gs true false true h = absurd (cc h)
lacks true true true false false h = inl (2, refl, omega arith)
lacks true false true false false h = inl (2, refl, omega arith)
lacks false true true false false h = inl (2, refl, omega arith)
lacks false false true false false h = inl (2, refl, omega arith)
lacks true true false true false h = inr (refl, refl, refl)
lacks true false false true false h = inl (1, refl, omega arith)
lacks false true false true false h = inr (refl, refl, refl)
lacks false false false true false h = inl (1, refl, omega arith)
lacks true true false false true h = inr (refl, refl, refl)
lacks true false false false true h = inl (1, refl, omega arith)
lacks false true false false true h = inr (refl, refl, refl)
lacks false false false false true h = inl (1, refl, omega arith)
lacks true true false false false h = inl (2, refl, omega arith)
lacks true false false false false h = inl (1, refl, omega arith)
lacks false true false false false h = inl (2, refl, omega arith)
lacks false false false false false h = inl (1, refl, omega arith)

prefixes_lack : (b : List ℕ) → may_stand_together b ≡ true → Lacks (marks_of b)
prefixes_lack b h = lacks (is_among b 0x66) (is_among b 0x65) (is_among b 0xF0) (is_among b 0xF3) (is_among b 0xF2) (both_true (at_most_one segments b) _ h).1

-- ---- the whole

-- what all of a list spells, by its prefixes and the rest
pub unlimited_of : (ps u : List ℕ) (j : Insn) → are_prefixes ps ≡ true → may_stand_together ps ≡ true → spelled_rows rows (marks_of ps) u ≡ Some j → unlimited (ps ++ u) ≡ Some j
unlimited_of ps u j p t e =
    let h = headed (marks_of ps) u j e in
    let f : front (ps ++ u) ≡ ps = ap (λ (v : List ℕ). front (ps ++ v)) h.parts ∙ front_of ps h.byte h.rest p h.plain in
    let b : body (ps ++ u) ≡ u = ap (λ (v : List ℕ). body (ps ++ v)) h.parts ∙ body_of ps h.byte h.rest p h.plain ∙ sym h.parts in
    let test : may_stand_together (front (ps ++ u)) ≡ true = ap may_stand_together f ∙ t in
    ap (λ (v : Bool). elim v as (λ _. Option Insn) [ true ↦ spelled_rows rows (marks_of (front (ps ++ u))) (body (ps ++ u)) | false ↦ None ]) test ∙ ap₂ (λ (q v : List ℕ). spelled_rows rows (marks_of q) v) f b ∙ e

pub record UnlimitedParts (s : List ℕ) (j : Insn) : Type 0 where
  pub together : may_stand_together (front s) ≡ true
  pub spells : spelled_rows rows (marks_of (front s)) (body s) ≡ Some j
  pub head : Headed (body s)
  pub size : length s ≡ length (front s) + length (body s)

pub unlimited_parts : (s : List ℕ) (j : Insn) → unlimited s ≡ Some j → UnlimitedParts s j
unlimited_parts s j e =
    let c = chosen (may_stand_together (front s)) (spelled_rows rows (marks_of (front s)) (body s)) j e in
    record { together = c.0; spells = c.1; head = headed (marks_of (front s)) (body s) j c.1; size = omega (arith, ap length (split s), length-append (front s) (body s)) }

-- the bytes have an opcode byte
with_opcode : (b : List ℕ) (x : ℕ) (u : List ℕ) → body b ≡ x ∷ u → (r : Scan) → may_stand_together (front b) ≡ true → IsScan (spelled_rows rows (marks_of (front b))) (body b) r → IsScan unlimited b (later (length (front b)) r)
with_opcode b x u e r t h = by_scan r h
  where
    size : length b ≡ length (front b) + length (body b)
    size = omega (arith, ap length (split b), length-append (front b) (body b))

    behind : (s : List ℕ) (j : Insn) → unlimited s ≡ Some j → Agree s b → (spelled_rows rows (marks_of (front b)) (body s) ≡ Some j) × Agree (body s) (body b) × (length s ≡ length (front b) + length (body s))
    behind s j p a =
        let w = unlimited_parts s j p in
        let v = same_prefixes s b w.head.byte x w.head.rest u w.head.parts e a in
        (ap (λ (q : List ℕ). spelled_rows rows (marks_of q) (body s)) (sym v.fronts) ∙ w.spells, v.bodies, omega (arith, w.size, ap length v.fronts))

    by_scan : (q : Scan) → IsScan (spelled_rows rows (marks_of (front b))) (body b) q → IsScan unlimited b (later (length (front b)) q)
    by_scan (Found i n) k =
        let taken : take (length (front b) + n) b ≡ front b ++ take n (body b) = ap (take (length (front b) + n)) (sym (split b)) ∙ take-append-add (front b) (body b) n in
        (omega (arith, size, k.0), ap unlimited taken ∙ unlimited_of (front b) (take n (body b)) i (front_are_prefixes b) t k.1, λ s j p a. let v = behind s j p a in let l = k.2 (body s) j v.0 v.1 in omega (arith, v.2, l))
    by_scan (More n) k =
        let w = k.1 in
        let whole : b ++ w.0 ≡ front b ++ (body b ++ w.0) = ap (λ (v : List ℕ). v ++ w.0) (sym (split b)) ∙ append_assoc (front b) (body b) w.0 in
        (omega (arith, size, k.0), (w.0, omega (arith, w.1, ap length whole, length-append (front b) (body b ++ w.0)), w.2, (w.3.0, ap unlimited whole ∙ unlimited_of (front b) (body b ++ w.0) w.3.0 (front_are_prefixes b) t w.3.1)), λ s j p a. let v = behind s j p a in let l = k.2 (body s) j v.0 v.1 in omega (arith, v.2, l))
    by_scan Nothing k = λ s j p a. let v = behind s j p a in k (body s) j v.0 v.1

-- the bytes are prefixes alone
prefixes_only : (b : List ℕ) → body b ≡ [] → may_stand_together (front b) ≡ true → IsScan unlimited b (later (length (front b)) (scan_rows rows (marks_of (front b)) (body b)))
prefixes_only b e t =
    elim (prefixes_lack (front b) t) [
      | inl few ↦
          let is_more : scan_rows rows (marks_of (front b)) (body b) ≡ More few.0 = ap (scan_rows rows (marks_of (front b))) e ∙ few.1 in
          let right : IsScan (spelled_rows rows (marks_of (front b))) (body b) (More few.0) = subst (IsScan (spelled_rows rows (marks_of (front b))) (body b)) is_more (rows_scan (marks_of (front b)) (body b)) in
          subst (λ (r : Scan). IsScan unlimited b (later (length (front b)) r)) (sym is_more) (by_more few.0 few.2 right)
      | inr none ↦
          let is_none : scan_rows rows (marks_of (front b)) (body b) ≡ Nothing = ap (scan_rows rows (marks_of (front b))) e ∙ none.0 in
          subst (λ (r : Scan). IsScan unlimited b (later (length (front b)) r)) (sym is_none) (by_none none.1 none.2)
    ]
  where
    by_more : (n : ℕ) → n ≤ 2 → IsScan (spelled_rows rows (marks_of (front b))) (body b) (More n) → IsScan unlimited b (More (length (front b) + n))
    by_more n two k =
        let w = k.1 in
        let size : length b ≡ length (front b) + length (body b) = omega (arith, ap length (split b), length-append (front b) (body b)) in
        let whole : b ++ w.0 ≡ front b ++ (body b ++ w.0) = ap (λ (v : List ℕ). v ++ w.0) (sym (split b)) ∙ append_assoc (front b) (body b) w.0 in
        (omega (arith, size, k.0), (w.0, omega (arith, w.1, ap length whole, length-append (front b) (body b ++ w.0)), w.2, (w.3.0, ap unlimited whole ∙ unlimited_of (front b) (body b ++ w.0) w.3.0 (front_are_prefixes b) t w.3.1)), bound)
      where
        alone : front b ≡ b
        alone = prefixes_alone b e

        by_rest : (s : List ℕ) (j : Insn) → UnlimitedParts s j → (more : List ℕ) → front s ≡ b ++ more → length (front b) + n ≤ length s
        by_rest s j v [] f =
            let same : front s ≡ front b = f ∙ append-nil b ∙ sym alone in
            let spells : spelled_rows rows (marks_of (front b)) (body s) ≡ Some j = ap (λ (q : List ℕ). spelled_rows rows (marks_of q) (body s)) (sym same) ∙ v.spells in
            let l = k.2 (body s) j spells (subst (Agree (body s)) (sym e) (agree_nil (body s))) in
            omega (arith, l, v.size, ap length same)
        by_rest s j v (z ∷ more) f = omega (arith, two, v.size, ap length v.head.parts, ap length f, length-append b (z ∷ more), ap length alone)

        bound : (s : List ℕ) (j : Insn) → unlimited s ≡ Some j → Agree s b → length (front b) + n ≤ length s
        bound s j p a =
            let v = unlimited_parts s j p in
            let m = more_prefixes s b v.head.byte v.head.rest v.head.parts e a in
            by_rest s j v m.0 m.1

    by_none : (marks_of (front b)).gs ≡ true → is_repeated (marks_of (front b)).rep ≡ true → IsScan unlimited b Nothing
    by_none g p = λ s j k a.
        let v = unlimited_parts s j k in
        let m = more_prefixes s b v.head.byte v.head.rest v.head.parts e a in
        let f : front s ≡ front b ++ m.0 = m.1 ∙ ap (λ (u : List ℕ). u ++ m.0) (sym (prefixes_alone b e)) in
        let spells : spelled_rows rows (marks_of (front b ++ m.0)) (body s) ≡ Some j = ap (λ (q : List ℕ). spelled_rows rows (marks_of q) (body s)) (sym f) ∙ v.spells in
        rows_never_both rows (marks_of (front b ++ m.0)) (body s) j table_one_of_both (among_more (front b) m.0 0x65 g) (repeated_more (front b) m.0 p) spells

no_together : (b : List ℕ) → may_stand_together (front b) ≡ false → IsScan unlimited b Nothing
no_together b t = λ s j p a. by_body (body b) refl s j (unlimited_parts s j p) a
  where
    by_body : (u : List ℕ) → body b ≡ u → (s : List ℕ) (j : Insn) → UnlimitedParts s j → Agree s b → ⊥
    by_body [] e s j v a =
        let m = more_prefixes s b v.head.byte v.head.rest v.head.parts e a in
        let whole : may_stand_together (b ++ m.0) ≡ true = ap may_stand_together (sym m.1) ∙ v.together in
        true_not_false (sym (ap may_stand_together (prefixes_alone b e) ∙ together_more b m.0 whole) ∙ t)
    by_body (x ∷ u) e s j v a =
        let w = same_prefixes s b v.head.byte x v.head.rest u v.head.parts e a in
        true_not_false (sym (ap may_stand_together (sym w.fronts) ∙ v.together) ∙ t)

pub scan_right : (b : List ℕ) → IsScan unlimited b (scan b)
unfolding scan
scan_right b = by_test (may_stand_together (front b)) refl
  where
    by_body : (u : List ℕ) → body b ≡ u → may_stand_together (front b) ≡ true → IsScan unlimited b (later (length (front b)) (scan_rows rows (marks_of (front b)) (body b)))
    by_body [] e t = prefixes_only b e t
    by_body (x ∷ u) e t = with_opcode b x u e (scan_rows rows (marks_of (front b)) (body b)) t (rows_scan (marks_of (front b)) (body b))

    by_test : (v : Bool) → may_stand_together (front b) ≡ v → IsScan unlimited b (elim v as (λ _. Scan) [ true ↦ later (length (front b)) (scan_rows rows (marks_of (front b)) (body b)) | false ↦ Nothing ])
    by_test true t = by_body (body b) refl t
    by_test false t = no_together b t
