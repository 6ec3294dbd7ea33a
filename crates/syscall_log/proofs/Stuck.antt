-- What the next line of a text says of the items that may come.
use Rattle.std.proofs.Common.{◌≡◌, ℕ, zero, suc, ◌-◌, ◌<◌, Bool, true, false, not, ◌&&◌, eqb, List, [], ◌∷◌, ◌++◌, length, take, drop, get_or, Some, None, Result, Ok, Err, IfErr, IsErrAnd, refl, sym, ap, ◌∙◌, subst, arith, length-append}
use Rattle.std.proofs.Math.Seq.{drop-cons, take-length}
use Rattle.std.proofs.lemmas.Bool.{eqb-true}
use Rattle.std.proofs.lemmas.List.{take-append-drop}
use Rattle.std.proofs.lemmas.Option.{same_Some, none-some}
use Rattle.syscall_log.specs.declared.item.Item.{Item}
use Rattle.syscall_log.specs.declared.phase.Phase.{Phase}
use Rattle.syscall_log.specs.declared.fault.LineFault.{LineFault}
use Rattle.syscall_log.specs.declared.fault.LineFault.TheVariants as fault
use Rattle.syscall_log.specs.Reads.{Reads}
use Rattle.syscall_log.specs.Grammar.{line_of}
use Rattle.syscall_log.specs.Following.{one_line, IsFirstLine, HasNoLine, IsStuck}
use Rattle.syscall_log.specs.Phases.{IsItem, MayCome}
use Rattle.syscall_log.specs.Reading.{item_in}
use Rattle.syscall_log.proofs.Spelling.{item-again}
use Rattle.syscall_log.proofs.Splitting.{one_line-item, cut}

-- the item of a text's first line is the one that the line is read as
line-item : (text line rest more : List ℕ) (i : Item) → IsFirstLine text line rest → IsItem i → text ≡ line_of i ++ 10 ∷ more → item_in line ≡ Some i
line-item text line rest more i first is e =
    let same = cut line (line_of i) rest more first.one (one_line-item i) (sym first.whole ∙ e) in
    ap item_in same.0 ∙ item-again i is

pub stuck-no-line : (p : Phase) (text : List ℕ) → HasNoLine text → IsStuck p text
stuck-no-line p text none i rest may e = none (line_of i) rest e

pub stuck-no-item : (p : Phase) (text line rest : List ℕ) → IsFirstLine text line rest → item_in line ≡ None → IsStuck p text
stuck-no-item p text line rest first none i more may e = none-some i (sym none ∙ line-item text line rest more i first may.0 e)

pub stuck-no-place : (p : Phase) (text line rest : List ℕ) (j : Item) → IsFirstLine text line rest → item_in line ≡ Some j → ¬ MayCome p j → IsStuck p text
stuck-no-place p text line rest j first found out i more may e =
    let same : j ≡ i = same_Some j i (sym found ∙ line-item text line rest more i first may.0 e) in
    out (subst (MayCome p) (sym same) may)

false-of : (b : Bool) → (b ≡ true → ⊥) → b ≡ false
false-of true never = absurd (never refl)
false-of false never = refl

at-seam : (line : List ℕ) (c : ℕ) (rest : List ℕ) → get_or (line ++ c ∷ rest) (length line) 0 ≡ c
at-seam [] c rest = refl
at-seam (x ∷ line) c rest = at-seam line c rest

-- a text up to its first line feed
pub one_line-take : (text : List ℕ) (n : ℕ) → ((k : ℕ) → k < n → eqb (get_or text k 0) 10 ≡ true → ⊥) → one_line (take n text) ≡ true
one_line-take text zero before = refl
one_line-take [] (suc n) before = refl
one_line-take (c ∷ text) (suc n) before =
    ap (λ b. not b && one_line (take n text)) (false-of (eqb c 10) (before 0 (omega arith)))
    ∙ one_line-take text n (λ k below. before (suc k) (omega arith))

pub first-line : (text : List ℕ) (n : ℕ) → n < length text → eqb (get_or text n 0) 10 ≡ true → drop n text ≡ 10 ∷ drop (suc n) text
first-line text n below feed = drop-cons text n 0 below ∙ ap (λ c. c ∷ drop (suc n) text) (eqb-true (get_or text n 0) 10 feed)

-- a text without a line feed has no line
pub no-line : (text : List ℕ) → ((k : ℕ) → k < length text → eqb (get_or text k 0) 10 ≡ true → ⊥) → HasNoLine text
no-line text none line rest e =
    none (length line) (omega (arith, ap length e, length-append line (10 ∷ rest)))
    (ap (λ t. eqb (get_or t (length line) 0) 10) e ∙ ap (λ c. eqb c 10) (at-seam line 10 rest))

-- a fault that is handed on, of a line that is read as no item
pub handed-on : {A : Type 0} (r : Result A LineFault) (f : LineFault) (p : Phase) (text line rest : List ℕ) → IsErrAnd r (λ e. e ≡ f) → IsFirstLine text line rest → Reads {A = Item} (item_in line) (Err f) → IfErr r (λ e. e ≡ fault.Unknown → IsStuck p text)
handed-on (Ok x) f p text line rest is first reads = tt
handed-on (Err e) f p text line rest is first reads =
    λ unknown. stuck-no-item p text line rest first (subst (λ g. Reads {A = Item} (item_in line) (Err g)) (sym is ∙ unknown) reads)

-- a text that is split before a line feed
pub split-line : (text front back more : List ℕ) (n : ℕ) → front ≡ take n text → back ≡ drop n text → back ≡ 10 ∷ more → text ≡ front ++ 10 ∷ take (length back - 1) (drop 1 back)
split-line text front back more n is_front is_back feed =
    let less : length back - 1 ≡ length more = omega (arith, ap length feed) in
    let rest : take (length back - 1) (drop 1 back) ≡ more = ap (λ k. take k (drop 1 back)) less ∙ ap (λ b. take (length more) (drop 1 b)) feed ∙ take-length more in
    sym (take-append-drop n text) ∙ ap (λ t. t ++ drop n text) (sym is_front) ∙ ap (λ t. front ++ t) (sym is_back ∙ feed ∙ ap (λ t. 10 ∷ t) (sym rest))
