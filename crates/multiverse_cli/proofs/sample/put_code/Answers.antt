use Rattle.std.proofs.Common.{◌≡◌, ◌+◌, ◌-◌, refl, arith}
use Rattle.multiverse_cli.proofs.Samples.{code-more, code-done}
use Rattle.multiverse_cli.proofs.sample.put_code.Goals as goal

pub loop-made-preserved : goal.loop-made-preserved
loop-made-preserved c =
    let k = c.loop-made._made in
    let left = c.args.size - (k + 1) in
    let count : c.args.size - k ≡ left + 1 = omega (arith, c.loop-made-test.true) in
    code-more c.loop-made.x left (c.args.size - k) c.next_number-x.result _ c.loop-made.to.items c.push.new.self.items _ count
    c.next_number-x.ensures c.in_ok-push.ensures.items refl c.loop-made.invariant

pub returns : goal.returns
returns c =
    let k = c.loop-made._made in
    let none : c.args.size - k ≡ 0 = omega (arith, c.loop-made-test.false) in
    code-done c.loop-made.x (c.args.size - k) c.loop-made.to.items _ none c.loop-made.invariant
