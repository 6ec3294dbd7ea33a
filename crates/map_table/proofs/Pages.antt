-- The bytes of pages and directories, group by group.
use Rattle.std.proofs.Common.{◌≡◌, ℕ, zero, suc, ◌+◌, ◌-◌, ◌*◌, ◌<◌, ◌≤◌, Bool, true, false, cond, List, [], ◌∷◌, ◌++◌, length, get_or, take, drop, map, refl, sym, ap, ◌∙◌, arith, append_assoc}
use Rattle.std.specs.Prelude.{replicate}
use Rattle.std.specs.List.{range_with_len, count_by}
use Rattle.std.proofs.lemmas.List.{append-nil, take_all}
use Rattle.std.proofs.lemmas.List.Sums.{sum_by-cons}
use Rattle.std.proofs.lemmas.List.FromFn.{map-range_with_len_more}
use Rattle.mv_base.specs.Bytes.{word, words}
use Rattle.mv_base.specs.Words.{words-append}
use Rattle.map_table.specs.declared.group.Group.{Group}
use Rattle.map_table.specs.Groups.{has_site}
use Rattle.map_table.specs.Pairs.{firsts, entry_in}
use Rattle.map_table.specs.Paged.{page, page_name, next_page, directory, own_page, pages}
use Rattle.map_table.specs.Ends.{EndsLow, EndLow}
use Rattle.map_table.specs.laws.Counts.{none_left}

-- one word
pub words_one : (n : ℕ) → words (n ∷ []) ≡ word n
unfolding words word
words_one n = append-nil (word n)

words_cons : (n : ℕ) (ns : List ℕ) → words (n ∷ ns) ≡ word n ++ words ns
words_cons n ns = words-append (n ∷ []) ns ∙ ap (λ (t : List ℕ). t ++ words ns) (words_one n)

words_nil : words [] ≡ []
unfolding words
words_nil = refl

-- one entry more
pub word_more : (f : ℕ → ℕ) (lo n x : ℕ) (new now old : List ℕ) → x ≡ f (lo + n) → now ≡ old ++ words (map f (range_with_len lo n)) → new ≡ now ++ word x
    → new ≡ old ++ words (map f (range_with_len lo (n + 1)))
word_more f lo n x new now old e h p =
    let more : words (map f (range_with_len lo (n + 1))) ≡ words (map f (range_with_len lo n)) ++ word x =
    ap words (map-range_with_len_more f lo n (lo + n) refl)
    ∙ (words-append (map f (range_with_len lo n)) (f (lo + n) ∷ [])
    ∙ (ap (λ (t : List ℕ). words (map f (range_with_len lo n)) ++ t) (words_one (f (lo + n))) ∙ ap (λ (y : ℕ). words (map f (range_with_len lo n)) ++ word y) (sym e))) in
    p ∙ (ap (λ (t : List ℕ). t ++ word x) h ∙ (append_assoc old (words (map f (range_with_len lo n))) (word x) ∙ ap (λ (t : List ℕ). old ++ t) (sym more)))

pub no_words : (f : ℕ → ℕ) (lo : ℕ) (old : List ℕ) → old ≡ old ++ words (map f (range_with_len lo 0))
no_words f lo old = sym (append-nil old) ∙ ap (λ (l : List ℕ). old ++ l) (sym words_nil)

-- words that are 0
pub words_zeros : (n : ℕ) → words (replicate n 0) ≡ replicate (4 * n) 0
unfolding words
words_zeros zero = refl
words_zeros (suc n) =
    let e : suc (suc (suc (suc (4 * n)))) ≡ 4 * suc n = omega arith in
    ap (λ (l : List ℕ). 0 ∷ 0 ∷ 0 ∷ 0 ∷ l) (words_zeros n) ∙ ap (λ k. replicate k 0) e

pub zeros_behind : (old new : List ℕ) (len held count : ℕ) → len ≡ held → held ≡ length old → new ≡ take (len + 4 * count) old ++ replicate (len + 4 * count - held) 0
    → new ≡ old ++ words (replicate count 0)
zeros_behind old new len held count is holds e =
    let n : len + 4 * count - held ≡ 4 * count = omega arith in
    e ∙ (ap (λ (l : List ℕ). l ++ replicate (len + 4 * count - held) 0) (take_all (len + 4 * count) old (omega arith))
    ∙ (ap (λ k. old ++ replicate k 0) n ∙ ap (λ (l : List ℕ). old ++ l) (sym (words_zeros count))))

-- ---- pages

-- a page's entries and the zeros behind them
pub page_parts : (ps : List (ℕ × ℕ)) (g : Group) (old now new : List ℕ) → now ≡ old ++ words (map (entry_in ps) (range_with_len g.lo g.len))
    → new ≡ now ++ words (replicate (1024 - g.len) 0) → new ≡ old ++ words (page ps g)
unfolding page
page_parts ps g old now new entries zeros =
    let front : List ℕ = map (entry_in ps) (range_with_len g.lo g.len) in
    zeros ∙ (ap (λ (l : List ℕ). l ++ words (replicate (1024 - g.len) 0)) entries
    ∙ (append_assoc old (words front) (words (replicate (1024 - g.len) 0)) ∙ ap (λ (l : List ℕ). old ++ l) (sym (words-append front (replicate (1024 - g.len) 0)))))

pub own_page_is : (ps : List (ℕ × ℕ)) (g : Group) (old new : List ℕ) → has_site (firsts ps) g ≡ true → new ≡ old ++ words (page ps g) → new ≡ old ++ words (own_page ps g)
own_page_is ps g old new has e = e ∙ ap (λ b. old ++ words (cond b (page ps g) [])) (sym has)

pub no_own_page : (ps : List (ℕ × ℕ)) (g : Group) (old : List ℕ) → has_site (firsts ps) g ≡ false → old ≡ old ++ words (own_page ps g)
no_own_page ps g old has = sym (ap (λ b. old ++ words (cond b (page ps g) [])) has ∙ (ap (λ (l : List ℕ). old ++ l) words_nil ∙ append-nil old))

pages_cons : (ps : List (ℕ × ℕ)) (g : Group) (gs : List Group) → words (pages ps (g ∷ gs)) ≡ words (own_page ps g) ++ words (pages ps gs)
unfolding pages
pages_cons ps g gs = words-append (own_page ps g) (pages ps gs)

pages_nil : (ps : List (ℕ × ℕ)) → words (pages ps []) ≡ []
unfolding pages
pages_nil ps = words_nil

pub pages_step : (ps : List (ℕ × ℕ)) (gs : List Group) (i : ℕ) (g : Group) (now new all : List ℕ) → drop i gs ≡ g ∷ drop (i + 1) gs → now ++ words (pages ps (drop i gs)) ≡ all
    → new ≡ now ++ words (own_page ps g) → new ++ words (pages ps (drop (i + 1) gs)) ≡ all
pages_step ps gs i g now new all next before after =
    let behind : List ℕ = words (pages ps (drop (i + 1) gs)) in
    ap (λ (l : List ℕ). l ++ behind) after ∙ (append_assoc now (words (own_page ps g)) behind
    ∙ (ap (λ (l : List ℕ). now ++ l) (sym (ap (λ (l : List Group). words (pages ps l)) next ∙ pages_cons ps g (drop (i + 1) gs))) ∙ before))

pub pages_done : (ps : List (ℕ × ℕ)) (gs : List Group) (i : ℕ) (now all : List ℕ) → length gs ≤ i → now ++ words (pages ps (drop i gs)) ≡ all → now ≡ all
pages_done ps gs i now all le is =
    sym (append-nil now) ∙ (ap (λ (l : List ℕ). now ++ l) (sym (ap (λ (l : List Group). words (pages ps l)) (none_left gs i le) ∙ pages_nil ps)) ∙ is)

-- each group that is written ends low
pub ends_at : (gs : List Group) (i : ℕ) (d : Group) → EndLow gs → i < length gs → EndsLow (get_or gs i d)
ends_at [] i d ends lt = absurd (omega arith)
ends_at (g ∷ gs) zero d ends lt = ends.0
ends_at (g ∷ gs) (suc i) d ends lt = ends_at gs i d ends.1 (omega arith)

-- ---- directories

abbrev one_if : Bool → ℕ
one_if b = cond b 1 0

next_by : (b : Bool) (at : ℕ) → cond b (at + 4096) at ≡ at + 4096 * one_if b
next_by true at = omega arith
next_by false at = omega arith

directory_cons : (sites : List ℕ) (blank at : ℕ) (g : Group) (gs : List Group)
    → words (directory sites blank at (g ∷ gs)) ≡ word (page_name sites blank at g) ++ words (directory sites blank (next_page sites at g) gs)
unfolding directory
directory_cons sites blank at g gs = words_cons (page_name sites blank at g) (directory sites blank (next_page sites at g) gs)

directory_nil : (sites : List ℕ) (blank at : ℕ) → words (directory sites blank at []) ≡ []
unfolding directory
directory_nil sites blank at = words_nil

-- where the pages that are left end
pub pages_end : (sites : List ℕ) (gs : List Group) (i : ℕ) (g : Group) (at : ℕ) → drop i gs ≡ g ∷ drop (i + 1) gs
    → next_page sites at g + 4096 * count_by (has_site sites) (drop (i + 1) gs) ≡ at + 4096 * count_by (has_site sites) (drop i gs)
pages_end sites gs i g at next =
    omega (arith, next_by (has_site sites g) at, ap (count_by (has_site sites)) next, sum_by-cons (λ h. one_if (has_site sites h)) g (drop (i + 1) gs))

pub directory_step : (sites : List ℕ) (blank at next : ℕ) (gs : List Group) (i : ℕ) (g : Group) (now new all : List ℕ) → drop i gs ≡ g ∷ drop (i + 1) gs
    → now ++ words (directory sites blank at (drop i gs)) ≡ all → new ≡ now ++ word (page_name sites blank at g) → next ≡ next_page sites at g
    → new ++ words (directory sites blank next (drop (i + 1) gs)) ≡ all
directory_step sites blank at next gs i g now new all split before after moved =
    let behind : List ℕ = words (directory sites blank (next_page sites at g) (drop (i + 1) gs)) in
    ap (λ n. new ++ words (directory sites blank n (drop (i + 1) gs))) moved
    ∙ (ap (λ (l : List ℕ). l ++ behind) after ∙ (append_assoc now (word (page_name sites blank at g)) behind
    ∙ (ap (λ (l : List ℕ). now ++ l) (sym (ap (λ (l : List Group). words (directory sites blank at l)) split ∙ directory_cons sites blank at g (drop (i + 1) gs))) ∙ before)))

pub directory_done : (sites : List ℕ) (blank at : ℕ) (gs : List Group) (i : ℕ) (now all : List ℕ) → length gs ≤ i → now ++ words (directory sites blank at (drop i gs)) ≡ all → now ≡ all
directory_done sites blank at gs i now all le is =
    sym (append-nil now) ∙ (ap (λ (l : List ℕ). now ++ l) (sym (ap (λ (l : List Group). words (directory sites blank at l)) (none_left gs i le) ∙ directory_nil sites blank at)) ∙ is)
