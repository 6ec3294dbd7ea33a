-- A source is read line by line.
use Rattle.std.proofs.Common.{◌≡◌, ℕ, zero, suc, ◌-◌, ◌<◌, Bool, true, false, not, ◌&&◌, ◌==◌, eqb, List, [], ◌∷◌, ◌++◌, length, take, drop, get_or, Option, refl, sym, ap, ◌∙◌, arith, append_assoc, append-nil}
use Rattle.std.specs.Prelude.{IsTrue}
use Rattle.std.specs.List.{AllZip, flat_map}
use Rattle.std.proofs.Math.Seq.{drop-cons, take-length}
use Rattle.std.proofs.lemmas.Bool.{eqb-true}
use Rattle.std.proofs.lemmas.Grind.{flat_map-append}
use Rattle.std.proofs.lemmas.List.{take-append-drop}
use Rattle.std.proofs.lemmas.List.Elements.{All-push}
use Rattle.mini_asm.specs.declared.form.Form.{Form}
use Rattle.mini_asm.specs.Faults.{ended, is_line}
use Rattle.mini_asm.specs.Forms.{IsFormOf}
use Rattle.mini_asm.specs.Reads.{IsNextLine, HasRead, AreForms}

false-of : (b : Bool) → (b ≡ true → ⊥) → b ≡ false
false-of true never = absurd (never refl)
false-of false never = refl

-- a text up to its first line feed
pub is_line-take : (text : List ℕ) (n : ℕ) → ((k : ℕ) → k < n → eqb (get_or text k 0) 10 ≡ true → ⊥) → is_line (take n text) ≡ true
is_line-take text zero before = refl
is_line-take [] (suc n) before = refl
is_line-take (c ∷ text) (suc n) before =
    ap (λ b. not b && is_line (take n text)) (false-of (eqb c 10) (before 0 (omega arith)))
    ∙ is_line-take text n (λ k below. before (suc k) (omega arith))

pub is_line-all : (text : List ℕ) → ((k : ℕ) → k < length text → eqb (get_or text k 0) 10 ≡ true → ⊥) → is_line text ≡ true
is_line-all [] none = refl
is_line-all (c ∷ text) none =
    ap (λ b. not b && is_line text) (false-of (eqb c 10) (none 0 (omega arith)))
    ∙ is_line-all text (λ k below. none (suc k) (omega arith))

pub first-line : (text : List ℕ) (n : ℕ) → n < length text → eqb (get_or text n 0) 10 ≡ true → drop n text ≡ 10 ∷ drop (suc n) text
first-line text n below feed = drop-cons text n 0 below ∙ ap (λ c. c ∷ drop (suc n) text) (eqb-true (get_or text n 0) 10 feed)

-- a text that is split before a line feed
pub split-line : (text front back more : List ℕ) (n : ℕ) → front ≡ take n text → back ≡ drop n text → back ≡ 10 ∷ more → text ≡ front ++ 10 ∷ take (length back - 1) (drop 1 back)
split-line text front back more n is_front is_back feed =
    let less : length back - 1 ≡ length more = omega (arith, ap length feed) in
    let rest : take (length back - 1) (drop 1 back) ≡ more = ap (λ k. take k (drop 1 back)) less ∙ ap (λ b. take (length more) (drop 1 b)) feed ∙ take-length more in
    sym (take-append-drop n text) ∙ ap (λ t. t ++ drop n text) (sym is_front) ∙ ap (λ t. front ++ t) (sym is_back ∙ feed ∙ ap (λ t. 10 ∷ t) (sym rest))

-- ---- line by line

zip-push : {A B : Type 0} (R : A → B → Type 0) (xs : List A) (ys : List B) (x : A) (y : B) → AllZip R xs ys → R x y → AllZip R (xs ++ x ∷ []) (ys ++ y ∷ [])
zip-push R [] [] x y all r = (r, tt)
zip-push R [] (b ∷ ys) x y all r = absurd all
zip-push R (a ∷ xs) [] x y all r = absurd all
zip-push R (a ∷ xs) (b ∷ ys) x y all r = (all.0, zip-push R xs ys x y all.1 r)

pub read-none : (source : List ℕ) → HasRead source [] source
read-none source = record { lines = []; whole = refl; each = λ k d below. absurd (omega (arith, below)); are_forms = tt }

pub read-more : (source : List ℕ) (forms : List (Option Form)) (text line rest : List ℕ) (f : Option Form) → HasRead source forms text → IsNextLine text line rest → IsFormOf line f → HasRead source (forms ++ f ∷ []) rest
read-more source forms text line rest f h next is = record {
  lines = h.lines ++ line ∷ [];
  whole =
      h.whole ∙ ap (λ t. flat_map ended h.lines ++ t) (next.whole ∙ sym (append_assoc line (10 ∷ []) rest))
      ∙ sym (append_assoc (flat_map ended h.lines) (ended line) rest)
      ∙ ap (λ t. t ++ rest) (ap (λ t. flat_map ended h.lines ++ t) (sym (append-nil (ended line))) ∙ sym (flat_map-append ended h.lines (line ∷ [])));
  each = All-push (λ l. IsTrue (is_line l)) h.lines line h.each next.one;
  are_forms = zip-push IsFormOf h.lines forms line f h.are_forms is;
}

pub read-all : (source : List ℕ) (forms : List (Option Form)) (text : List ℕ) (whole : Bool) → HasRead source forms text → IsTrue (is_line text) → whole ≡ (length text == 0) → AreForms source forms whole
read-all source forms text whole h last is = record {
  lines = h.lines;
  rest = text;
  split = record { whole = h.whole; each = h.each; last = last };
  are_forms = h.are_forms;
  ends = is;
}
