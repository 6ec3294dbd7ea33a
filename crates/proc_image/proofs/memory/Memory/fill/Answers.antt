use Rattle.std.proofs.Common.{◌≡◌, ◌+◌, ap, ◌∙◌, refl, Some, slice_index}
use Rattle.mv_base.specs.Memory.{Cell, Memory}
use Rattle.proc_image.specs.Paged.{cells, with_cell}
use Rattle.proc_image.proofs.Fills.{filled-none, filled-more}
use Rattle.proc_image.proofs.memory.Memory.fill.Goals as goal

pub loop-place-init : goal.loop-place-init
loop-place-init c = record {
  done = filled-none (cells c.args.self.now) c.args.lo c.args.bytes.now c.args.write c.args.exec;
  room = λ q. refl;
}

-- the new cell
made : (c : goal.After-set) → c.new.result ≡ record { byte = slice_index c.args.bytes.now c.loop-place.place; write = c.args.write; exec = c.args.exec }
made c = c.new.ensures ∙ ap (λ b. let made : Cell = record { byte = b; write = c.args.write; exec = c.args.exec } in made) c.byte_or_zero-byte.ensures

pub loop-place-preserved : goal.loop-place-preserved
loop-place-preserved c = record {
  done =
      c.set.ensures.here
      ∙ ap (λ (d : Cell). with_cell (cells c.loop-place.self) (c.args.lo + c.loop-place.place) (Some d)) (made c)
      ∙ ap (λ (m : Memory). with_cell m (c.args.lo + c.loop-place.place) (Some (record { byte = slice_index c.args.bytes.now c.loop-place.place; write = c.args.write; exec = c.args.exec }))) c.loop-place.invariant.done
      ∙ filled-more (cells c.args.self.now) c.args.lo c.loop-place.place c.args.bytes.now c.args.write c.args.exec;
  room = λ q. c.set.ensures.room q ∙ c.loop-place.invariant.room q;
}
