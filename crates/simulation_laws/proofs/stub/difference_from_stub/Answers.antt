use Rattle.std.proofs.Common.{◌<◌, ◌∙◌, sym, length, arith}
use Rattle.lookup_stub.specs.Stub.{stub}
use Rattle.lookup_stub.specs.laws.StubBytes.{stub_length}
use Rattle.simulation_laws.specs.laws.Fronts.{stops, ended}
use Rattle.simulation_laws.proofs.stub.difference_from_stub.Goals as goal

pub returns-then-kept-found : goal.returns-then-kept-found
returns-then-kept-found c =
    let bytes = stub c.args.form c.args.runs.now c.args.private in
    let lt : c.loop-i.i < length bytes = omega (arith, c.loop-i-test.true, c.stub_len-i-end.ensures, stub_length c.args.form c.args.runs.now c.args.private) in
    sym (c.loop-i.invariant ∙ stops c.loop-i.i c.loop-i.i bytes c.args.code.now c.from-kept.result c.byte_or_missing-found.result lt (c.from-kept.ensures ∙ c.stub_byte.ensures) c.byte_or_missing-found.ensures c.if-kept-found.true)

pub returns : goal.returns
returns c =
    let bytes = stub c.args.form c.args.runs.now c.args.private in
    sym (c.loop-i.invariant ∙ ended c.loop-i.i c.loop-i.i bytes _ (omega (arith, c.loop-i-test.false, c.stub_len-i-end.ensures, stub_length c.args.form c.args.runs.now c.args.private)))
