-- What a change of one page does to the pages and the cells of a directory.
use mathlib.Core.Path.{fun_ext}
use Rattle.std.proofs.Common.{◌≡◌, ◌≢◌, ℕ, zero, suc, ◌/◌, ◌%◌, ◌<◌, ◌≤◌, ◌==◌, Bool, true, false, List, [], ◌∷◌, ◌++◌, length, set, get_or, take, replicate, Option, None, nat_lt, if◌then◌else◌, refl, sym, ap, ◌∙◌, arith, length-append}
use Rattle.std.proofs.lemmas.Bool.Decides.{nat_tests}
use Rattle.std.proofs.lemmas.List.{get_or-set_same, get_or-set_other, length-set, take_all}
use Rattle.mv_base.specs.Memory.{Cell}
use Rattle.proc_image.specs.declared.memory.Memory.{Memory as Pages}
use Rattle.proc_image.specs.Paged.{Page, IsLonger, page_in, cell_in, table_of, page_of, cells, with_cell}

-- an element of a list with one set
pub at_set : {X : Type 0} (xs : List X) (i j : ℕ) (y d : X) → i < length xs → get_or (set xs i y) j d ≡ (if j == i then y else get_or xs j d)
at_set xs i j y d below = go (j == i) refl
  where
    go : (t : Bool) → (j == i) ≡ t → get_or (set xs i y) j d ≡ (if t then y else get_or xs j d)
    go true e = let same : j ≡ i = grind (arith, nat_tests) in rw same (get_or-set_same xs i y d below)
    go false e = let apart : j ≢ i = grind (arith, nat_tests) in get_or-set_other xs i j y d apart

-- an element that is there, whatever is to be read where there is none
pub at_any : {X : Type 0} (xs : List X) (i : ℕ) (d e : X) → i < length xs → get_or xs i d ≡ get_or xs i e
at_any [] i d e below = absurd (omega arith)
at_any (x ∷ xs) zero d e below = refl
at_any (x ∷ xs) (suc i) d e below = at_any xs i d e (omega arith)

-- one more element that is the one to be read where there is none
pub at_more : {X : Type 0} (xs : List X) (q : ℕ) (d : X) → get_or (xs ++ d ∷ []) q d ≡ get_or xs q d
at_more [] zero d = refl
at_more [] (suc q) d = refl
at_more (x ∷ xs) zero d = refl
at_more (x ∷ xs) (suc q) d = at_more xs q d

-- where an element that is not the one to be read where there is none can only stand
pub at_inside : {Y : Type 0} (xs : List (List Y)) (i k : ℕ) → k < length (get_or xs i []) → i < length xs
at_inside [] i k below = absurd (omega arith)
at_inside (x ∷ xs) zero k below = omega arith
at_inside (x ∷ xs) (suc i) k below = let rest = at_inside xs i k below in omega arith

-- the directory with another page
abbrev pub with_page : List (List Page) → ℕ → Page → List (List Page)
with_page d n page = set d (n / 1024) (set (get_or d (n / 1024) []) (n % 1024) page)

-- its pages
pub page_in-with_page : (d : List (List Page)) (n : ℕ) (page : Page) (k q : ℕ) → k < length (page_in d n) → page_in (with_page d n page) q ≡ (if q == n then page else page_in d q)
unfolding page_in
page_in-with_page d n page k q below =
    let column = at_inside (get_or d (n / 1024) []) (n % 1024) k below in
    let row = at_inside d (n / 1024) (n % 1024) column in
    ap (λ t. get_or t (q % 1024) []) (at_set d (n / 1024) (q / 1024) (set (get_or d (n / 1024) []) (n % 1024) page) [] row)
    ∙ go column (q / 1024 == n / 1024) (q % 1024 == n % 1024) (q == n) refl refl refl
  where
    T : List Page
    T = get_or d (n / 1024) []

    go : n % 1024 < length T → (t u v : Bool) → (q / 1024 == n / 1024) ≡ t → (q % 1024 == n % 1024) ≡ u → (q == n) ≡ v
        → get_or (if t then set T (n % 1024) page else get_or d (q / 1024) []) (q % 1024) [] ≡ (if v then page else get_or (get_or d (q / 1024) []) (q % 1024) [])
    go column false u true row place whole = let same : q ≡ n = grind (arith, nat_tests) in let other : q / 1024 ≢ n / 1024 = grind (arith, nat_tests) in absurd (other (ap (λ x. x / 1024) same))
    go column false u false row place whole = refl
    go column true true true row place whole = let same : q % 1024 ≡ n % 1024 = grind (arith, nat_tests) in rw same (get_or-set_same T (n % 1024) page [] column)
    go column true false true row place whole = let same : q ≡ n = grind (arith, nat_tests) in let other : q % 1024 ≢ n % 1024 = grind (arith, nat_tests) in absurd (other (ap (λ x. x % 1024) same))
    go column true true false row place whole =
        let a : q / 1024 ≡ n / 1024 = grind (arith, nat_tests) in
        let b : q % 1024 ≡ n % 1024 = grind (arith, nat_tests) in
        let c : q ≢ n = grind (arith, nat_tests) in
        absurd (c (omega arith))
    go column true false false row place whole =
        let same : q / 1024 ≡ n / 1024 = grind (arith, nat_tests) in
        let apart : q % 1024 ≢ n % 1024 = grind (arith, nat_tests) in
        get_or-set_other T (n % 1024) (q % 1024) page [] apart ∙ ap (λ r. get_or (get_or d r []) (q % 1024) []) (sym same)

-- no page has changed its room where one of its cells is set
pub room-with_cell : (d : List (List Page)) (n k : ℕ) (cell : Option Cell) (q : ℕ) → k < length (page_in d n) → length (page_in (with_page d n (set (page_in d n) k cell)) q) ≡ length (page_in d q)
room-with_cell d n k cell q below =
    ap length (page_in-with_page d n (set (page_in d n) k cell) k q below) ∙ go (q == n) refl
  where
    go : (t : Bool) → (q == n) ≡ t → length (if t then set (page_in d n) k cell else page_in d q) ≡ length (page_in d q)
    go true e = let same : q ≡ n = grind (arith, nat_tests) in rw same (length-set (page_in d n) k cell)
    go false e = refl

-- the cells where one is set
pub cell_in-with_cell : (d : List (List Page)) (at : ℕ) (cell : Option Cell) → at < 0xFFFFF000 → at % 4096 < length (page_in d (at / 4096))
    → cell_in (with_page d (at / 4096) (set (page_in d (at / 4096)) (at % 4096) cell)) ≡ with_cell (cell_in d) at cell
unfolding cell_in
cell_in-with_cell d at cell low below = fun_ext (λ a.
    ap (λ p. if nat_lt a 0xFFFFF000 then get_or p (a % 4096) None else None) (page_in-with_page d n P' k (a / 4096) below)
    ∙ go a (nat_lt a 0xFFFFF000) (a / 4096 == n) (a % 4096 == k) (a == at) refl refl refl refl)
  where
    n : ℕ
    n = at / 4096

    k : ℕ
    k = at % 4096

    P' : Page
    P' = set (page_in d n) k cell

    go : (a : ℕ) (s t u v : Bool) → nat_lt a 0xFFFFF000 ≡ s → (a / 4096 == n) ≡ t → (a % 4096 == k) ≡ u → (a == at) ≡ v
        → (if s then get_or (if t then P' else page_in d (a / 4096)) (a % 4096) None else None)
        ≡ (if v then cell else (if s then get_or (page_in d (a / 4096)) (a % 4096) None else None))
    go a false t u true high page place whole = absurd (grind (arith, nat_tests))
    go a false t u false high page place whole = refl
    go a true false u true high page place whole =
        let same : a ≡ at = grind (arith, nat_tests) in let other : a / 4096 ≢ n = grind (arith, nat_tests) in absurd (other (ap (λ x. x / 4096) same))
    go a true false u false high page place whole = refl
    go a true true u true high page place whole =
        let same : a ≡ at = grind (arith, nat_tests) in
        rw same (get_or-set_same (page_in d n) k cell None below)
    go a true true true false high page place whole =
        let p : a / 4096 ≡ at / 4096 = grind (arith, nat_tests) in
        let q : a % 4096 ≡ at % 4096 = grind (arith, nat_tests) in
        let c : a ≢ at = grind (arith, nat_tests) in
        absurd (c (omega arith))
    go a true true false false high page place whole =
        let same : a / 4096 ≡ n = grind (arith, nat_tests) in
        let apart : a % 4096 ≢ k = grind (arith, nat_tests) in
        get_or-set_other (page_in d n) k (a % 4096) cell None apart ∙ ap (λ r. get_or (page_in d r) (a % 4096) None) (sym same)

-- no cell in no page
pub cell_in-empty : (a : ℕ) → cell_in [] a ≡ None
unfolding cell_in page_in
cell_in-empty a = go (nat_lt a 0xFFFFF000)
  where
    go : (t : Bool) → ◌≡◌ {A = Option Cell} (if t then None else None) None
    go true = refl
    go false = refl

-- directories whose pages have the same cells have the same cells
pub cell_in-longer : (d e : List (List Page)) → ((q : ℕ) → IsLonger (page_in d q) (page_in e q)) → cell_in e ≡ cell_in d
unfolding cell_in
cell_in-longer d e longer =
    fun_ext (λ a. ap (λ c. if nat_lt a 0xFFFFF000 then c else None) ((longer (a / 4096)).same (a % 4096)))

-- padding with the element to be read where there is none
pub at_replicate : {X : Type 0} (k i : ℕ) (d : X) → get_or (replicate k d) i d ≡ d
at_replicate zero i d = refl
at_replicate (suc k) zero d = refl
at_replicate (suc k) (suc i) d = at_replicate k i d

pub at_padded : {X : Type 0} (xs : List X) (k i : ℕ) (d : X) → get_or (xs ++ replicate k d) i d ≡ get_or xs i d
at_padded [] k i d = at_replicate k i d
at_padded (x ∷ xs) k zero d = refl
at_padded (x ∷ xs) k (suc i) d = at_padded xs k i d

pub IsLonger-same : (p : Page) → IsLonger p p
IsLonger-same p = record { same = λ k. refl; longer = omega arith }

pub IsLonger-resized : (old inside new : Page) (n k : ℕ) → inside ≡ old → length inside < n → new ≡ take n inside ++ replicate k None → IsLonger old new
IsLonger-resized old inside new n k view below resized =
    let whole : take n inside ≡ inside = take_all n inside (omega arith) in
    let padded : new ≡ old ++ replicate k None = resized ∙ ap (λ p. p ++ replicate k None) (whole ∙ view) in
    rw padded (record {
      same = λ i. at_padded old k i None;
      longer = simp length-append (omega arith);
    })

-- a table whose pages are longer where one of them is
pub IsLonger-set : (t : List Page) (i : ℕ) (page : Page) (q : ℕ) → i < length t → IsLonger (get_or t i []) page → IsLonger (get_or t q []) (get_or (set t i page) q [])
IsLonger-set t i page q below longer = rw (at_set t i q page [] below) (go (q == i) refl)
  where
    go : (v : Bool) → (q == i) ≡ v → IsLonger (get_or t q []) (if v then page else get_or t q [])
    go true e = let same : q ≡ i = grind (arith, nat_tests) in rw same longer
    go false e = IsLonger-same (get_or t q [])

-- a directory whose pages are longer where one table's are
pub page_in-longer : (d : List (List Page)) (i : ℕ) (t : List Page) (q : ℕ) → i < length d → ((j : ℕ) → IsLonger (get_or (get_or d i []) j []) (get_or t j []))
    → IsLonger (page_in d q) (page_in (set d i t) q)
unfolding page_in
page_in-longer d i t q below longer = rw (at_set d i (q / 1024) t [] below) (go (q / 1024 == i) refl)
  where
    go : (v : Bool) → (q / 1024 == i) ≡ v → IsLonger (get_or (get_or d (q / 1024) []) (q % 1024) []) (get_or (if v then t else get_or d (q / 1024) []) (q % 1024) [])
    go true e = let same : q / 1024 ≡ i = grind (arith, nat_tests) in rw same (longer (q % 1024))
    go false e = IsLonger-same (get_or (get_or d (q / 1024) []) (q % 1024) [])

-- a directory with the same tables has the same pages
pub page_in-same : (d e : List (List Page)) → ((i : ℕ) → get_or e i [] ≡ get_or d i []) → (q : ℕ) → IsLonger (page_in d q) (page_in e q)
unfolding page_in
page_in-same d e same q =
    let pages : get_or (get_or e (q / 1024) []) (q % 1024) [] ≡ get_or (get_or d (q / 1024) []) (q % 1024) [] = ap (λ t. get_or t (q % 1024) []) (same (q / 1024)) in
    rw pages (IsLonger-same (get_or (get_or d (q / 1024) []) (q % 1024) []))

pub page_in-reserved : (d e : List (List Page)) (i : ℕ) (r t : List Page) → ((j : ℕ) → get_or e j [] ≡ get_or d j []) → i < length e → r ≡ get_or e i []
    → ((j : ℕ) → IsLonger (get_or r j []) (get_or t j [])) → (q : ℕ) → IsLonger (page_in d q) (page_in (set e i t) q)
page_in-reserved d e i r t same below at longer q =
    let old = page_in-same d e same q in
    let new = page_in-longer e i t q below (rw (← at) longer) in
    record { same = λ k. new.same k ∙ old.same k; longer = omega arith }

-- the page at which a table is set
pub page_in-set : (d : List (List Page)) (n : ℕ) (t : List Page) → n / 1024 < length d → page_in (set d (n / 1024) t) n ≡ get_or t (n % 1024) []
unfolding page_in
page_in-set d n t below = ap (λ r. get_or r (n % 1024) []) (get_or-set_same d (n / 1024) t [] below)

-- a page by its table, and a cell by its page
pub page_of-table : (m : Pages) (n : ℕ) → page_of m n ≡ get_or (table_of m (n / 1024)) (n % 1024) []
unfolding page_of page_in table_of
page_of-table m n = refl

pub cells-page : (m : Pages) (a : ℕ) → a < 0xFFFFF000 → cells m a ≡ get_or (page_of m (a / 4096)) (a % 4096) None
unfolding cells cell_in page_of
cells-page m a low =
    let below : nat_lt a 0xFFFFF000 ≡ true = grind (arith, nat_tests) in
    ap (λ t. if t then get_or (page_of m (a / 4096)) (a % 4096) None else None) below

pub cells-high : (m : Pages) (a : ℕ) → 0xFFFFF000 ≤ a → cells m a ≡ None
unfolding cells cell_in page_in page_of
cells-high m a high =
    let above : nat_lt a 0xFFFFF000 ≡ false = grind (arith, nat_tests) in
    ap (λ t. if t then get_or (page_of m (a / 4096)) (a % 4096) None else None) above

-- a page that has a place stands in a table that is there
pub row_of : (m : Pages) (at : ℕ) → at % 4096 < length (page_of m (at / 4096)) → at / 4096 / 1024 < length m.directory.items
unfolding page_of page_in
row_of m at room =
    at_inside m.directory.items (at / 4096 / 1024) (at / 4096 % 1024)
    (at_inside (get_or m.directory.items (at / 4096 / 1024) []) (at / 4096 % 1024) (at % 4096) room)

pub table_of_row : (m : Pages) (at : ℕ) (r : List Page) → at % 4096 < length (page_of m (at / 4096)) → r ≡ get_or m.directory.items (at / 4096 / 1024) r
    → r ≡ get_or m.directory.items (at / 4096 / 1024) []
table_of_row m at r room is = is ∙ at_any m.directory.items (at / 4096 / 1024) r [] (row_of m at room)
