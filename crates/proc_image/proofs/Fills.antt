-- Memory with a range filled, cell by cell.
use mathlib.Core.Path.{fun_ext}
use Rattle.std.proofs.Common.{◌≡◌, ◌≢◌, ℕ, ◌+◌, ◌-◌, ◌<◌, ◌≤◌, ◌==◌, Bool, true, false, List, slice_index, Some, nat_lt, if◌then◌else◌, refl, sym, ap, ◌∙◌, arith}
use Rattle.std.proofs.lemmas.Bool.Decides.{nat_tests}
use Rattle.mv_base.specs.Memory.{Cell, Memory, within}
use Rattle.proc_image.specs.Mapping.{filled}
use Rattle.proc_image.specs.Paged.{with_cell}

-- what a test of a range says
pub inside : (lo len a : ℕ) → within lo len a ≡ true → (lo ≤ a) × (a < lo + len)
inside lo len a is = (grind (arith, nat_tests), grind (arith, nat_tests))

pub is_inside : (lo len a : ℕ) → lo ≤ a → a < lo + len → within lo len a ≡ true
is_inside lo len a above below = grind (arith, nat_tests)

pub is_below : (lo len a : ℕ) → a < lo → within lo len a ≡ false
is_below lo len a below = grind (arith, nat_tests)

pub is_above : (lo len a : ℕ) → lo + len ≤ a → within lo len a ≡ false
is_above lo len a above = grind (arith, nat_tests)

-- one more address is in a range that is longer by one
pub within-more : (lo n a : ℕ) → within lo (n + 1) a ≡ (if a == lo + n then true else within lo n a)
within-more lo n a = go (a == lo + n) (within lo n a) refl refl
  where
    go : (t u : Bool) → (a == lo + n) ≡ t → within lo n a ≡ u → within lo (n + 1) a ≡ (if t then true else u)
    go true u here old = let same : a ≡ lo + n = grind (arith, nat_tests) in is_inside lo (n + 1) a (omega arith) (omega arith)
    go false true here old = let bounds = inside lo n a old in is_inside lo (n + 1) a (omega (arith, bounds.0)) (omega (arith, bounds.1))
    go false false here old =
        let apart : a ≢ lo + n = grind (arith, nat_tests) in
        outside (nat_lt a lo) refl apart old
      where
        outside : (v : Bool) → nat_lt a lo ≡ v → a ≢ lo + n → within lo n a ≡ false → within lo (n + 1) a ≡ false
        outside true e apart old = is_below lo (n + 1) a (grind (arith, nat_tests))
        outside false e apart old =
            let above : lo ≤ a = grind (arith, nat_tests) in
            let past : lo + n ≤ a = grind (arith, nat_tests) in
            is_above lo (n + 1) a (omega arith)

-- nothing is filled yet
pub filled-none : (m : Memory) (lo : ℕ) (bytes : List ℕ) (w x : Bool) → m ≡ filled m lo 0 bytes w x
unfolding filled
filled-none m lo bytes w x = fun_ext (λ a. go a (within lo 0 a) refl)
  where
    go : (a : ℕ) (t : Bool) → within lo 0 a ≡ t → m a ≡ (if t then Some (record { byte = slice_index bytes (a - lo); write = w; exec = x }) else m a)
    go a true e = let bounds = inside lo 0 a e in absurd (omega (arith, bounds.0, bounds.1))
    go a false e = refl

-- one more cell
pub filled-more : (m : Memory) (lo n : ℕ) (bytes : List ℕ) (w x : Bool)
    → with_cell (filled m lo n bytes w x) (lo + n) (Some (record { byte = slice_index bytes n; write = w; exec = x })) ≡ filled m lo (n + 1) bytes w x
unfolding filled
filled-more m lo n bytes w x = fun_ext (λ a. go a (a == lo + n) (within lo n a) refl refl ∙ ap (λ t. if t then Some (cell a) else m a) (sym (within-more lo n a)))
  where
    cell : ℕ → Cell
    cell a = record { byte = slice_index bytes (a - lo); write = w; exec = x }

    go : (a : ℕ) (t u : Bool) → (a == lo + n) ≡ t → within lo n a ≡ u
        → (if t then Some (record { byte = slice_index bytes n; write = w; exec = x }) else (if u then Some (cell a) else m a))
        ≡ (if (if t then true else u) then Some (cell a) else m a)
    go a true u here old =
        let same : a ≡ lo + n = grind (arith, nat_tests) in
        let place : n ≡ a - lo = omega arith in
        ap (λ k. Some (record { byte = slice_index bytes k; write = w; exec = x })) place
    go a false u here old = refl
