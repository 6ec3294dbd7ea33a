use Rattle.std.proofs.Common.{◌+◌, take, sym, ap, subst, arith}
use Rattle.elf32_read.specs.CodeImage.{code_base}
use Rattle.mini_asm.specs.declared.spots.Spot.{Spot}
use Rattle.mini_asm.specs.Spots.{AreSpots, total}
use Rattle.mini_asm.proofs.Placing.{spots-taken, total-push}
use Rattle.mini_asm.proofs.spots.spots_of.Goals as goal

pub loop-form-preserved : goal.loop-form-preserved
loop-form-preserved c =
    let l = c.loop-form in
    let s : Spot = record { at = l.at; size = c.form_size-size.result } in
    let items = sym c.in_ok-push.ensures.items in (
      omega (arith, l.invariant.0, total-push l.spots.items s, ap total items),
      subst (λ spots. AreSpots code_base (take (l.form-index + 1) c.args.forms.now) spots) items
          (spots-taken code_base c.args.forms.now l.form-index c.form-item.result l.spots.items s l.invariant.1 l.invariant.0 c.form_size-size.ensures c.form-item.is c.loop-form-test.true),
    )
