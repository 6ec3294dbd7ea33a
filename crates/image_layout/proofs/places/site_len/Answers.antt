use Rattle.std.proofs.Common.{◌≡◌, ap, arith}
use Rattle.counter_hooks.specs.laws.Counted.{counter_length}
use Rattle.image_layout.specs.Pieces.{counter_len}
use Rattle.image_layout.proofs.places.site_len.Goals as goal

pub overflow_cast-result : goal.overflow_cast-result
overflow_cast-result c = omega (arith, c.counter_len.ensures 0 0, counter_length 0 0)

pub overflow_add-result : goal.overflow_add-result
overflow_add-result c = omega (arith, c.counter_len.ensures 0 0, counter_length 0 0, c.way_len-piece.ensures.few)

pub returns-then-is_counted : goal.returns-then-is_counted
returns-then-is_counted c =
    let has : counter_len c.args.is_counted ≡ 46 = ap counter_len c.if-is_counted.true in
    omega (arith, c.counter_len.ensures 0 0, counter_length 0 0, c.way_len-piece.ensures.is, has)
