use Rattle.std.proofs.Common.{◌<◌, ◌≤◌, length, ◌∙◌, arith, take_all}
use Rattle.lookup_stub.specs.Stub.{stub as stub_of}
use Rattle.lookup_stub.specs.laws.StubBytes.{stub_length, one_byte}
use Rattle.lookup_stub.proofs.code.stub.Goals as goal

pub loop-i-preserved : goal.loop-i-preserved
loop-i-preserved c =
    let len = stub_length 2 c.args.runs.now c.args.private in
    let end = c.stub_len-i-end.ensures in
    let below : c.loop-i.i < length (stub_of 2 c.args.runs.now c.args.private) = omega arith in
    one_byte (stub_of 2 c.args.runs.now c.args.private) c.loop-i.bytes.items c.push.new.self.items c.loop-i.i c.stub_byte.result below c.loop-i.invariant c.stub_byte.ensures c.in_ok-push.ensures.items

pub returns : goal.returns
returns c =
    let len = stub_length 2 c.args.runs.now c.args.private in
    let end = c.stub_len-i-end.ensures in
    let past : length (stub_of 2 c.args.runs.now c.args.private) ≤ c.loop-i.i = omega arith in
    c.loop-i.invariant ∙ take_all c.loop-i.i (stub_of 2 c.args.runs.now c.args.private) past
