-- Why an effect is not refused, and what it makes of memory.
use mathlib.Core.Path.{fun_ext}
use Rattle.std.proofs.Common.{◌≡◌, ℕ, zero, suc, ◌+◌, ◌-◌, ◌%◌, ◌/◌, ◌^◌, ◌<◌, ◌≤◌, ◌==◌, Bool, true, false, not, ◌||◌, List, [], length, get_or, slice_index, Option, Some, None, is_some, nat_lt, if◌then◌else◌, refl, sym, ap, ap₂, ◌∙◌, arith, add-suc}
use Rattle.std.specs.Option.{option_map}
use Rattle.std.proofs.lemmas.Bool.Decides.{nat_tests}
use Rattle.std.proofs.lemmas.Option.{none-some}
use Rattle.mv_base.specs.Memory.{Cell, Memory, within, cell_is, is_mapped, is_executable, address_after, first_failing, read_fault, write_fault, put, distance, with_byte}
use Rattle.mv_base.specs.Effects.{Mode, Read, Write, Exec, Executable, WriteAt, MapAt, UnmapAt, DescAt, makes_code, refused_access, refusal_of, applied, is_write_mode, is_exec_mode}
use Rattle.proc_image.specs.declared.memory.Memory.{Memory as Pages}
use Rattle.proc_image.specs.Counting.{some_below}
use Rattle.proc_image.specs.Mapping.{filled}
use Rattle.proc_image.specs.Paged.{Page, page_of, cells, with_cell}
use Rattle.proc_image.proofs.Counts.{some-zero, some-same, some-none}
use Rattle.proc_image.proofs.Fills.{inside, is_above, within-more}
use Rattle.proc_image.proofs.Pages.{cells-page}
use Rattle.proc_image.proofs.Putting.{room_of_cell}
use Rattle.proc_image.proofs.Reading.{first_failing-next, first_failing-none, first_failing-here}

-- the first address of a range that can be executed
abbrev pub first_code : Memory → ℕ → ℕ → Option ℕ
first_code m lo len = first_failing (λ a. not (is_executable m a)) lo len

pub refusal-write : (m : Memory) (lo : ℕ) (bytes : List ℕ) → false ≡ is_some (first_code m lo (length bytes)) → None ≡ read_fault m lo (length bytes) → None ≡ write_fault m lo (length bytes)
    → refusal_of m (WriteAt lo bytes) ≡ None
refusal-write m lo bytes no_code mapped writable =
    ap (λ t. if false || t then Some Executable else refused_access (read_fault m lo (length bytes)) (write_fault m lo (length bytes))) (sym no_code)
    ∙ ap₂ refused_access (sym mapped) (sym writable)

pub refusal-unmap : (m : Memory) (lo len : ℕ) → false ≡ is_some (first_code m lo len) → None ≡ read_fault m lo len → refusal_of m (UnmapAt lo len) ≡ None
refusal-unmap m lo len no_code mapped =
    ap (λ t. if false || t then Some Executable else refused_access (read_fault m lo len) None) (sym no_code) ∙ ap (λ o. refused_access o None) (sym mapped)

pub makes_code-map : (lo len : ℕ) (mode : Mode) (bytes : List ℕ) → makes_code (MapAt lo len mode bytes) ≡ is_exec_mode mode
makes_code-map lo len Read bytes = refl
makes_code-map lo len Write bytes = refl
makes_code-map lo len Exec bytes = refl

pub refusal-map : (m : Memory) (lo len : ℕ) (mode : Mode) (bytes : List ℕ) → false ≡ is_exec_mode mode → false ≡ is_some (first_code m lo len) → refusal_of m (MapAt lo len mode bytes) ≡ None
refusal-map m lo len mode bytes no_exec no_code =
    ap₂ (λ s t. if s || t then Some Executable else None) (makes_code-map lo len mode bytes ∙ sym no_exec) (sym no_code)

pub refusal-desc : (m : Memory) (index base : ℕ) → refusal_of m (DescAt index base) ≡ None
unfolding first_failing
refusal-desc m index base = refl

-- what is done
pub applied-desc : (m : Memory) (index base : ℕ) → m ≡ applied m (DescAt index base)
unfolding applied
applied-desc m index base = fun_ext (λ a. refl)

pub applied-write : (m : Memory) (lo : ℕ) (bytes : List ℕ) → put m lo bytes ≡ applied m (WriteAt lo bytes)
unfolding applied
applied-write m lo bytes = fun_ext (λ a. refl)

pub applied-map : (m : Memory) (lo len : ℕ) (mode : Mode) (bytes : List ℕ) → filled m lo len bytes (is_write_mode mode) (is_exec_mode mode) ≡ applied m (MapAt lo len mode bytes)
unfolding applied filled
applied-map m lo len mode bytes = fun_ext (λ a. refl)

-- taking away cell by cell
pub unmapped-none : (m : Memory) (lo : ℕ) → m ≡ applied m (UnmapAt lo 0)
unfolding applied
unmapped-none m lo = fun_ext (λ a. go a (within lo 0 a) refl)
  where
    go : (a : ℕ) (t : Bool) → within lo 0 a ≡ t → m a ≡ (if t then None else m a)
    go a true e = let bounds = inside lo 0 a e in absurd (omega (arith, bounds.0, bounds.1))
    go a false e = refl

pub unmapped-more : (m : Memory) (lo n : ℕ) → with_cell (applied m (UnmapAt lo n)) (lo + n) None ≡ applied m (UnmapAt lo (n + 1))
unfolding applied
unmapped-more m lo n = fun_ext (λ a. go a (a == lo + n) (within lo n a) ∙ ap (λ t. if t then None else m a) (sym (within-more lo n a)))
  where
    go : (a : ℕ) (t u : Bool) → (if t then None else (if u then None else m a)) ≡ (if (if t then true else u) then None else m a)
    go a true u = refl
    go a false u = refl

pub unmapped-above : (m : Memory) (lo n a : ℕ) → lo + n ≤ a → applied m (UnmapAt lo n) a ≡ m a
unfolding applied
unmapped-above m lo n a above = ap (λ t. if t then None else m a) (is_above lo n a above)

-- a page has the place of a mapped address
pub room_of_mapped : (m : Pages) (a : ℕ) → is_mapped (cells m) a ≡ true → a % 4096 < length (page_of m (a / 4096))
room_of_mapped m a mapped = go (cells m a) refl mapped
  where
    go : (c : Option Cell) → cells m a ≡ c → is_some c ≡ true → a % 4096 < length (page_of m (a / 4096))
    go None is mapped = cc
    go (Some c) is mapped = room_of_cell m a c (sym is)

-- each address of a range passes a test that none of it fails
pub passes-at : (test : ℕ → Bool) (a n k : ℕ) → a + n ≤ 2 ^ 32 → None ≡ first_failing test a n → k < n → test (a + k) ≡ true
passes-at test a zero k fits none below = absurd (omega arith)
passes-at test a (suc n) k fits none below = go (test a) refl (passes-at test (a + 1) n) k below
  where
    go : (t : Bool) → test a ≡ t → ((j : ℕ) → a + 1 + n ≤ 2 ^ 32 → None ≡ first_failing test (a + 1) n → j < n → test (a + 1 + j) ≡ true) → (k : ℕ) → k < suc n → test (a + k) ≡ true
    go false e rec k below = absurd (none-some a ((none ∙ first_failing-here test a n e)))
    go true e rec zero below = let same : a ≡ a + 0 = omega arith in ap test (sym same) ∙ e
    go true e rec (suc k) below =
        let here : k < n = omega arith in
        let next : address_after a 1 ≡ a + 1 = omega arith in
        let on : a + 1 + k ≡ a + suc k = omega arith in
        sym (ap test on) ∙ rec k (omega arith) (none ∙ first_failing-next test a n e ∙ ap (λ b. first_failing test b n) next) here

-- writing byte by byte
pub put-none : (m : Memory) (lo : ℕ) → m ≡ put m lo []
unfolding put
put-none m lo = fun_ext (λ a. go a (nat_lt (distance lo a) 0) refl)
  where
    go : (a : ℕ) (t : Bool) → nat_lt (distance lo a) 0 ≡ t → m a ≡ (if t then option_map (with_byte (slice_index [] (distance lo a))) (m a) else m a)
    go a true e = let below : distance lo a < 0 = grind (arith, nat_tests) in absurd (omega arith)
    go a false e = refl

-- ---- executable cells

some-front : (test : ℕ → Bool) (n : ℕ) → some_below test (suc n) ≡ (test 0 || some_below (λ j. test (suc j)) n)
unfolding some_below
some-front test zero = go (test 0)
  where
    go : (t : Bool) → (false || t) ≡ (t || false)
    go true = refl
    go false = refl
some-front test (suc n) = ap (λ b. b || test (suc n)) (some-front test n) ∙ assoc (test 0) (some_below (λ j. test (suc j)) n) (test (suc n))
  where
    assoc : (a b c : Bool) → ((a || b) || c) ≡ (a || (b || c))
    assoc true b c = refl
    assoc false b c = refl

-- some address of a range passes exactly where one fails the contrary test
pub some-first : (test : ℕ → Bool) (a n : ℕ) → a + n ≤ 2 ^ 32 → some_below (λ j. test (a + j)) n ≡ is_some (first_failing (λ x. not (test x)) a n)
some-first test a zero fits = some-zero (λ j. test (a + j)) ∙ ap is_some (sym (first_failing-none (λ x. not (test x)) a))
some-first test a (suc n) fits =
    some-front (λ j. test (a + j)) n
    ∙ (let here : a + 0 ≡ a = omega arith in ap (λ b. test b || some_below (λ j. test (a + suc j)) n) here)
    ∙ go (test a) refl (some-first test (a + 1) n)
  where
    shifted : some_below (λ j. test (a + 1 + j)) n ≡ some_below (λ j. test (a + suc j)) n
    shifted = some-same (λ j. test (a + suc j)) (λ j. test (a + 1 + j)) n (λ k below. let on : a + 1 + k ≡ a + suc k = omega arith in ap test on)

    go : (t : Bool) → test a ≡ t → (a + 1 + n ≤ 2 ^ 32 → some_below (λ j. test (a + 1 + j)) n ≡ is_some (first_failing (λ x. not (test x)) (a + 1) n))
        → (t || some_below (λ j. test (a + suc j)) n) ≡ is_some (first_failing (λ x. not (test x)) a (suc n))
    go true e rec = ap is_some (sym (first_failing-here (λ x. not (test x)) a n (ap not e)))
    go false e rec = sym shifted ∙ next n fits (rec (omega arith))
      where
        next : (n : ℕ) → a + suc n ≤ 2 ^ 32 → some_below (λ j. test (a + 1 + j)) n ≡ is_some (first_failing (λ x. not (test x)) (a + 1) n)
            → some_below (λ j. test (a + 1 + j)) n ≡ is_some (first_failing (λ x. not (test x)) a (suc n))
        next zero fits rec = some-zero (λ j. test (a + 1 + j)) ∙ ap is_some (sym (first_failing-next (λ x. not (test x)) a 0 (ap not e) ∙ first_failing-none (λ x. not (test x)) (address_after a 1)))
        next (suc n) fits rec =
            let on : address_after a 1 ≡ a + 1 = omega arith in
            rec ∙ ap is_some (sym (first_failing-next (λ x. not (test x)) a (suc n) (ap not e) ∙ ap (λ b. first_failing (λ x. not (test x)) b (suc n)) on))

-- what two ranges one behind the other have
some-add : (test : ℕ → Bool) (m n : ℕ) → some_below test (m + n) ≡ (some_below test m || some_below (λ j. test (m + j)) n)
unfolding some_below
some-add test m zero = let same : m + 0 ≡ m = omega arith in ap (some_below test) same ∙ go (some_below test m)
  where
    go : (b : Bool) → b ≡ (b || false)
    go true = refl
    go false = refl
some-add test m (suc n) = ap (some_below test) (add-suc m n) ∙ ap (λ b. b || test (m + n)) (some-add test m n) ∙ assoc (some_below test m) (some_below (λ j. test (m + j)) n) (test (m + n))
  where
    assoc : (a b c : Bool) → ((a || b) || c) ≡ (a || (b || c))
    assoc true b c = refl
    assoc false b c = refl

pub some-join : (test : ℕ → Bool) (lo at n : ℕ) (t : Bool) → lo ≤ at → some_below (λ j. test (lo + j)) (at - lo) ≡ false → t ≡ some_below (λ j. test (at + j)) n
    → some_below (λ j. test (lo + j)) (at + n - lo) ≡ t
some-join test lo at n t from before here =
    let all : at + n - lo ≡ at - lo + n = omega arith in
    ap (some_below (λ j. test (lo + j))) all ∙ some-add (λ j. test (lo + j)) (at - lo) n
    ∙ ap (λ b. b || some_below (λ j. test (lo + (at - lo + j))) n) before
    ∙ some-same (λ j. test (at + j)) (λ j. test (lo + (at - lo + j))) n (λ k below. let on : lo + (at - lo + k) ≡ at + k = omega arith in ap test on)
    ∙ sym here

-- one passes in a front of a range
pub some-longer : (test : ℕ → Bool) (m n : ℕ) → m ≤ n → some_below test m ≡ true → some_below test n ≡ true
some-longer test m n le some =
    let all : n ≡ m + (n - m) = omega arith in
    ap (some_below test) all ∙ some-add test m (n - m) ∙ ap (λ b. b || some_below (λ j. test (m + j)) (n - m)) some

-- no cell of an absent page can be executed
pub no_code-absent : (m : Pages) (lo len : ℕ) → page_of m (lo / 4096) ≡ [] → lo + len ≤ 0xFFFFF000 → lo % 4096 + len ≤ 4096
    → some_below (λ j. is_executable (cells m) (lo + j)) len ≡ false
no_code-absent m lo len absent low page = some-none (λ j. is_executable (cells m) (lo + j)) len (λ j below.
    let here : (lo + j) / 4096 ≡ lo / 4096 = omega arith in
    ap (cell_is (λ c. c.exec)) (cells-page m (lo + j) (omega arith) ∙ ap (λ p. get_or (page_of m p) ((lo + j) % 4096) None) here ∙ ap (λ (p : Page). get_or p ((lo + j) % 4096) None) absent))
