-- A walk over addresses that looks for the first that fails a test. What is left of it gives the same as all of it.
use Rattle.std.proofs.Common.{◌≡◌, ℕ, suc, ◌+◌, ◌-◌, ◌<◌, ◌≤◌, Bool, true, false, Option, Some, None, sym, ap, ◌∙◌, arith}
use Rattle.mv_base.specs.Memory.{address_after, first_failing}
use Rattle.proc_image.proofs.Reading.{first_failing-here, first_failing-next, first_failing-none}

pub walk-start : (test : ℕ → Bool) (a n : ℕ) → first_failing test a n ≡ first_failing test a (n - 0)
walk-start test a n = let same : n ≡ n - 0 = omega arith in ap (first_failing test a) same

pub walk-here : (test : ℕ → Bool) (all : Option ℕ) (a n done : ℕ) → done < n → all ≡ first_failing test a (n - done) → false ≡ test a → Some a ≡ all
walk-here test all a n done below left fails =
    let more : n - done ≡ suc (n - (done + 1)) = omega arith in
    sym (left ∙ ap (first_failing test a) more ∙ first_failing-here test a (n - (done + 1)) (sym fails))

pub walk-next : (test : ℕ → Bool) (all : Option ℕ) (a n done : ℕ) → done < n → all ≡ first_failing test a (n - done) → true ≡ test a
    → all ≡ first_failing test (address_after a 1) (n - (done + 1))
walk-next test all a n done below left passes =
    let more : n - done ≡ suc (n - (done + 1)) = omega arith in
    left ∙ ap (first_failing test a) more ∙ first_failing-next test a (n - (done + 1)) (sym passes)

pub walk-end : (test : ℕ → Bool) (all : Option ℕ) (a n done : ℕ) → n ≤ done → all ≡ first_failing test a (n - done) → None ≡ all
walk-end test all a n done past left =
    let none : n - done ≡ 0 = omega arith in
    sym (left ∙ ap (first_failing test a) none ∙ first_failing-none test a)
