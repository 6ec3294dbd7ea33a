use Rattle.std.proofs.Common.{◌≡◌, is_some, [], ap, sym, ◌∙◌, refl, add-one}
use Rattle.proc_image.specs.Counting.{some_below}
use Rattle.proc_image.specs.Paged.{is_mapped_in}
use Rattle.proc_image.proofs.Counts.{some-zero, some-more, some-here, some-none}
use Rattle.proc_image.proofs.page.Page.has_cell.Goals as goal

pub returns-then-is_empty : goal.returns-then-is_empty
returns-then-is_empty c =
    let absent : c.args.self.now ≡ [] = c.if-is_empty.ensures.0 refl in
    sym (ap (λ p. some_below (is_mapped_in p) 4096) absent ∙ some-none (is_mapped_in []) 4096 (λ k below. refl))

pub loop-place-init : goal.loop-place-init
loop-place-init c = some-zero (is_mapped_in c.args.self.now)

pub returns-then-is_some : goal.returns-then-is_some
returns-then-is_some c =
    sym (some-here (is_mapped_in c.args.self.now) 4096 c.loop-place.place c.loop-place-test.true (sym (c.if-is_some.ensures ∙ ap is_some c.cell.ensures)))

pub loop-place-preserved : goal.loop-place-preserved
loop-place-preserved c =
    rw add-one (some-more (is_mapped_in c.args.self.now) c.loop-place.place c.loop-place.invariant (sym (c.if-is_some.ensures ∙ ap is_some c.cell.ensures)))
