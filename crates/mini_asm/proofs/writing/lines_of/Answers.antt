use Rattle.std.proofs.Common.{[], ◌++◌, take, Some, sym, ap, ◌∙◌, append-nil}
use Rattle.std.specs.List.{cons_option}
use Rattle.mini_asm.specs.Labels.{place_of}
use Rattle.mini_asm.specs.Spots.{address_in}
use Rattle.mini_asm.specs.Writing.{lines_of}
use Rattle.mini_asm.proofs.Written.{lines-taken}
use Rattle.mini_asm.proofs.writing.lines_of.Goals as goal
use Rattle.mini_asm.proofs.writing.lines_of.Goals.{in-Some+in_ok-push, in_default}

pub loop-place-preserved : goal.loop-place-preserved
loop-place-preserved c =
    let l = c.loop-place in
    let a = address_in (place_of c.args.labels.now) c.args.spots.now in
    let more = lines-taken a c.args.forms.now c.args.spots.now l.place c.index-forms-place.result (record { at = 0; size = 0 }) c.requires c.loop-place-test.true c.index-forms-place.is in
    let was = l.invariant in
    elim c.match-branch-2.branch [
      | in-Some+in_ok-push w ↦
          rw w.lines-is (w.in_ok-push.ensures.items ∙ ap (λ xs. xs ++ cons_option (Some w.in-Some.line) []) was
          ∙ ap (λ o. lines_of a (take l.place c.args.forms.now) (take l.place c.args.spots.now) ++ cons_option o []) (sym w.in-Some.is ∙ c.in_ok-line.ensures)
          ∙ sym more)
      | in_default w ↦
          rw w.lines-is (was ∙ sym (append-nil _)
          ∙ ap (λ o. lines_of a (take l.place c.args.forms.now) (take l.place c.args.spots.now) ++ cons_option o []) (sym w.in_default.is ∙ c.in_ok-line.ensures)
          ∙ sym more)
    ]
