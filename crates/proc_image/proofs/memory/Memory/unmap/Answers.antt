use Rattle.std.proofs.Common.{ap, sym, ◌∙◌, ◌+◌, ◌≡◌, true, None, is_some, arith}
use Rattle.mv_base.specs.Memory.{Memory, is_mapped}
use Rattle.proc_image.specs.Paged.{cells, with_cell}
use Rattle.proc_image.proofs.Effecting.{unmapped-none, unmapped-more, unmapped-above, room_of_mapped, passes-at}
use Rattle.proc_image.proofs.memory.Memory.unmap.Goals as goal

pub loop-place-init : goal.loop-place-init
loop-place-init c = unmapped-none (cells c.args.self.now) c.args.lo

pub set-requires-clause-room : goal.set-requires-clause-room
set-requires-clause-room c =
    let mapped : is_mapped (cells c.args.self.now) (c.args.lo + c.loop-place.place) ≡ true =
    passes-at (is_mapped (cells c.args.self.now)) c.args.lo c.args.len c.loop-place.place (omega arith) (sym c.requires.mapped) c.loop-place-test.true in
    room_of_mapped c.loop-place.self (c.args.lo + c.loop-place.place)
    (ap (λ (m : Memory). is_mapped m (c.args.lo + c.loop-place.place)) c.loop-place.invariant
    ∙ ap is_some (unmapped-above (cells c.args.self.now) c.args.lo c.loop-place.place (c.args.lo + c.loop-place.place) (omega arith)) ∙ mapped)

pub loop-place-preserved : goal.loop-place-preserved
loop-place-preserved c =
    c.set.ensures.here
    ∙ ap (λ (m : Memory). with_cell m (c.args.lo + c.loop-place.place) None) c.loop-place.invariant
    ∙ unmapped-more (cells c.args.self.now) c.args.lo c.loop-place.place
