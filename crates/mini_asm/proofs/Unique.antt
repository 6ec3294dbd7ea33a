-- A source has its lines, and their drafts, in one way only.
use Rattle.std.specs.Prelude.{IsTrue}
use Rattle.std.specs.List.{All, flat_map}
use Rattle.std.proofs.Common.{◌≡◌, ℕ, suc, ◌==◌, Bool, true, false, not, ◌&&◌, List, [], ◌∷◌, ◌++◌, length, map, get_or, drop, refl, sym, ap, ◌∙◌, subst, arith, append_assoc}
use Rattle.std.proofs.lemmas.Bool.{false≢true}
use Rattle.x86_insn.specs.declared.insn.Insn.{Insn}
use Rattle.x86_insn.specs.declared.insn.Insn.TheVariants as insn
use Rattle.x86_encode.specs.laws.Chosen.{one_least}
use Rattle.elf32_read.specs.CodeImage.{code_base}
use Rattle.mini_asm.specs.declared.form.Form.{Form}
use Rattle.mini_asm.specs.declared.form.Form.TheVariants as form
use Rattle.mini_asm.specs.Faults.{AreDrafts, Draft, Following, HasLength, HasSize, IsSplit, LeastOfLength, end_of, ended, is_line}
use Rattle.mini_asm.specs.Forms.{IsForm}
use Rattle.mini_asm.proofs.Drafting.{line_of}
use Rattle.mini_asm.proofs.OneForm.{one-form}

-- ---- lines

-- a line ends at the first line feed
cut : (x y a b : List ℕ) → is_line x ≡ true → is_line y ≡ true → x ++ 10 ∷ a ≡ y ++ 10 ∷ b → (x ≡ y) × (a ≡ b)
cut [] [] a b hx hy e = (refl, ap (drop 1) e)
cut [] (c ∷ y) a b hx hy e =
    let same : 10 ≡ c = ap (λ t. get_or t 0 0) e in
    absurd (false≢true (ap (λ n. not (n == 10) && is_line y) same ∙ hy))
cut (c ∷ x) [] a b hx hy e =
    let same : c ≡ 10 = ap (λ t. get_or t 0 0) e in
    absurd (false≢true (ap (λ n. not (n == 10) && is_line x) (sym same) ∙ hx))
cut (c ∷ x) (d ∷ y) a b hx hy e =
    let same : c ≡ d = ap (λ t. get_or t 0 0) e in
    let rest = cut x y a b (line-tail c x hx) (line-tail d y hy) (ap (drop 1) e) in
    (λ i. same i ∷ rest.0 i, rest.1)
  where
    line-tail : (n : ℕ) (t : List ℕ) → is_line (n ∷ t) ≡ true → is_line t ≡ true
    line-tail n t h = go (not (n == 10)) (is_line t) h where
      go : (p q : Bool) → (p && q) ≡ true → q ≡ true
      go true q h = h
      go false q h = absurd (false≢true h)

-- what has no line feed holds no whole line
no-feed : (x a rest : List ℕ) → is_line rest ≡ true → rest ≡ x ++ 10 ∷ a → ⊥
no-feed [] a rest h e = false≢true (ap is_line (sym e) ∙ h)
no-feed (c ∷ x) a [] h e = let l = ap length e in omega (arith, l)
no-feed (c ∷ x) a (d ∷ rest) h e = no-feed x a rest (go (not (d == 10)) (is_line rest) h) (ap (drop 1) e) where
  go : (p q : Bool) → (p && q) ≡ true → q ≡ true
  go true q h = h
  go false q h = absurd (false≢true h)

joined : (x : List ℕ) (lines : List (List ℕ)) (rest : List ℕ) → flat_map ended (x ∷ lines) ++ rest ≡ x ++ 10 ∷ (flat_map ended lines ++ rest)
joined x lines rest = append_assoc (ended x) (flat_map ended lines) rest ∙ append_assoc x (10 ∷ []) (flat_map ended lines ++ rest)

lines-tail : (x : List ℕ) (lines : List (List ℕ)) → All (λ line. IsTrue (is_line line)) (x ∷ lines) → All (λ line. IsTrue (is_line line)) lines
lines-tail x lines all k d below = all (suc k) d (omega (arith, below))

same-lines : (xs ys : List (List ℕ)) (a b : List ℕ) → All (λ line. IsTrue (is_line line)) xs → All (λ line. IsTrue (is_line line)) ys → IsTrue (is_line a) → IsTrue (is_line b)
    → flat_map ended xs ++ a ≡ flat_map ended ys ++ b → (xs ≡ ys) × (a ≡ b)
same-lines [] [] a b hx hy ha hb e = (refl, e)
same-lines [] (y ∷ ys) a b hx hy ha hb e = absurd (no-feed y (flat_map ended ys ++ b) a ha (e ∙ joined y ys b))
same-lines (x ∷ xs) [] a b hx hy ha hb e = absurd (no-feed x (flat_map ended xs ++ a) b hb (sym e ∙ joined x xs a))
same-lines (x ∷ xs) (y ∷ ys) a b hx hy ha hb e =
    let first = cut x y (flat_map ended xs ++ a) (flat_map ended ys ++ b) (hx 0 x (omega arith)) (hy 0 y (omega arith)) (sym (joined x xs a) ∙ e ∙ joined y ys b) in
    let rest = same-lines xs ys a b (lines-tail x xs hx) (lines-tail y ys hy) ha hb first.1 in
    (λ i. first.0 i ∷ rest.0 i, rest.1)

pub one-split : (source : List ℕ) (xs ys : List (List ℕ)) (a b : List ℕ) → IsSplit source xs a → IsSplit source ys b → (xs ≡ ys) × (a ≡ b)
one-split source xs ys a b s t = same-lines xs ys a b s.each t.each s.last t.last (sym s.whole ∙ t.whole)

-- ---- sizes

one-least-length : (i : Insn) (n m : ℕ) → LeastOfLength i n → LeastOfLength i m → n ≡ m
one-least-length i n m a b = sym a.2 ∙ ap length (one_least i a.0 b.0 a.1 b.1) ∙ b.2

pub one-length : (i : Insn) (n m : ℕ) → HasLength i n → HasLength i m → n ≡ m
one-length (insn.Jump rel) n m a b = a ∙ sym b
one-length (insn.Branch c rel) n m a b = a ∙ sym b
one-length (insn.Loop k rel) n m a b = a ∙ sym b
one-length (insn.Call rel) n m a b = a ∙ sym b
one-length i n m a b = one-least-length i n m a b

one-size : (f : Form) (n m : ℕ) → HasSize f n → HasSize f m → n ≡ m
one-size form.Nothing n m a b = a ∙ sym b
one-size (form.Label name) n m a b = a ∙ sym b
one-size (form.Raw bytes) n m a b = a ∙ sym b
one-size (form.Code i) n m a b = one-length i n m a b
one-size (form.Aimed i name) n m a b = one-length i n m a b

-- ---- drafts

one-draft : (d e : Draft) → d.line ≡ e.line → d.at ≡ e.at → IsForm d.line d.says → IsForm e.line e.says → HasSize d.says d.size → HasSize e.says e.size → d ≡ e
one-draft d e line at fd fe sd se =
    let says : d.says ≡ e.says = one-form e.line d.says e.says (subst (λ l. IsForm l d.says) line fd) fe in
    let size : d.size ≡ e.size = one-size e.says d.size e.size (subst (λ f. HasSize f d.size) says sd) se in
    λ i. record { line = line i; says = says i; at = at i; size = size i }

same-drafts : (at to : ℕ) (ds es : List Draft) → at ≡ to → map line_of ds ≡ map line_of es
    → All (λ d. IsForm d.line d.says) ds → All (λ d. IsForm d.line d.says) es → All (λ d. HasSize d.says d.size) ds → All (λ d. HasSize d.says d.size) es
    → Following at ds → Following to es → ds ≡ es
same-drafts at to [] [] here lines fd fe sd se wd we = refl
same-drafts at to [] (e ∷ es) here lines fd fe sd se wd we = let l = ap length lines in absurd (omega (arith, l))
same-drafts at to (d ∷ ds) [] here lines fd fe sd se wd we = let l = ap length lines in absurd (omega (arith, l))
same-drafts at to (d ∷ ds) (e ∷ es) here lines fd fe sd se wd we =
    let line : d.line ≡ e.line = ap (λ (ls : List (List ℕ)). get_or ls 0 []) lines in
    let first = one-draft d e line (wd.0 ∙ here ∙ sym we.0) (fd 0 d (omega arith)) (fe 0 e (omega arith)) (sd 0 d (omega arith)) (se 0 e (omega arith)) in
    let rest = same-drafts (end_of d) (end_of e) ds es (ap end_of first) (ap (λ (ls : List (List ℕ)). drop 1 ls) lines)
    (λ k x below. fd (suc k) x (omega (arith, below))) (λ k x below. fe (suc k) x (omega (arith, below)))
    (λ k x below. sd (suc k) x (omega (arith, below))) (λ k x below. se (suc k) x (omega (arith, below))) wd.1 we.1 in
    λ i. first i ∷ rest i

pub one-drafts : (source : List ℕ) (ds es : List Draft) → AreDrafts source ds → AreDrafts source es → ds ≡ es
one-drafts source ds es a b =
    same-drafts code_base code_base ds es refl (one-split source (map line_of ds) (map line_of es) [] [] a.split b.split).0 a.forms b.forms a.sizes b.sizes a.follow b.follow
