use Rattle.std.proofs.Common.{sym, subst}
use Rattle.mini_asm.specs.Reads.{HasRead}
use Rattle.mini_asm.proofs.Lines.{read-more}
use Rattle.mini_asm.proofs.source.read_forms.Goals as goal

pub loop-rest-preserved : goal.loop-rest-preserved
loop-rest-preserved c =
    let l = c.loop-rest in
    let more = read-more c.args.source.now l.items.items l.rest.now c.in-Some.line.now c.in-Some.behind.now _ l.invariant c.in-Some.ensures.some c.in_ok-read_form.ensures in
    subst (λ items. HasRead c.args.source.now items c.in-Some.behind.now) (sym c.in_ok-push.ensures.items) more
