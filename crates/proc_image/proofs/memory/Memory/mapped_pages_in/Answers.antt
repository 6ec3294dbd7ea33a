use Rattle.std.proofs.Common.{sym, ◌∙◌, ◌≡◌, ◌+◌, ℕ, Bool, true, false, arith, add-one}
use Rattle.proc_image.specs.Counting.{mapped_pages_in, holds_mapped, count_below}
use Rattle.proc_image.specs.Paged.{cells}
use Rattle.proc_image.proofs.Counts.{count-zero, count-next, count-skip}
use Rattle.proc_image.proofs.memory.Memory.mapped_pages_in.Goals as goal
use Rattle.proc_image.proofs.memory.Memory.mapped_pages_in.Goals.{then-holds_mapped, else-holds_mapped}

pub loop-page-init : goal.loop-page-init
unfolding mapped_pages_in
loop-page-init c = record { counted = sym (count-zero (λ j. holds_mapped (cells c.args.self.now) (c.args.first + j))); most = omega arith }

-- one page more
counted : (test : ℕ → Bool) (n old new : ℕ) → old ≡ count_below test n → test n ≡ true → new ≡ old + 1 → new ≡ count_below test (n + 1)
counted test n old new before passes is = rw add-one (let more = count-next test n passes in omega arith)

skipped : (test : ℕ → Bool) (n old new : ℕ) → old ≡ count_below test n → test n ≡ false → new ≡ old → new ≡ count_below test (n + 1)
skipped test n old new before fails is = rw add-one (let same = count-skip test n fails in omega arith)

pub loop-page-preserved : goal.loop-page-preserved
unfolding mapped_pages_in
loop-page-preserved c =
    elim c.if-holds_mapped.branch [
      | then-holds_mapped w ↦ record {
        counted = counted (λ j. holds_mapped (cells c.args.self.now) (c.args.first + j)) c.loop-page.page c.loop-page.pages c.if-holds_mapped.pages
            c.loop-page.invariant.counted (sym c.holds_mapped.ensures ∙ w.if-holds_mapped.true) w.pages-is;
        most = omega arith;
      }
      | else-holds_mapped w ↦ record {
        counted = skipped (λ j. holds_mapped (cells c.args.self.now) (c.args.first + j)) c.loop-page.page c.loop-page.pages c.if-holds_mapped.pages
            c.loop-page.invariant.counted (sym c.holds_mapped.ensures ∙ w.if-holds_mapped.false) w.pages-is;
        most = omega arith;
      }
    ]
