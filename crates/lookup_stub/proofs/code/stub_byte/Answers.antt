use Rattle.std.proofs.Common.{arith}
use Rattle.lookup_stub.specs.laws.StubBytes.{head_read, run_read, flat_read, paged_read}
use Rattle.lookup_stub.proofs.code.stub_byte.Goals as goal

pub returns-then-i-lt-HEAD_LEN : goal.returns-then-i-lt-HEAD_LEN
returns-then-i-lt-HEAD_LEN c =
    head_read c.args.form c.args.runs.now c.args.private c.args.i c.head_bytes.result c.if-i-lt-HEAD_LEN.true c.head_bytes.ensures

pub returns-then-k-runs : goal.returns-then-k-runs
returns-then-k-runs c =
    run_read c.args.form c.args.runs.now c.args.private c.args.i _ c.search_bytes.result c.if-i-lt-HEAD_LEN.false c.if-k-runs.true c.search_bytes.ensures

pub returns-then-form-eq1 : goal.returns-then-form-eq1
returns-then-form-eq1 c =
    flat_read c.args.form c.args.runs.now c.args.private c.args.i c.end_byte.result c.if-i-lt-HEAD_LEN.false c.if-k-runs.false c.if-form-eq1.true c.end_byte.ensures

pub returns-else-form-eq1 : goal.returns-else-form-eq1
returns-else-form-eq1 c =
    paged_read c.args.form c.args.runs.now c.args.private c.args.i c.end_byte-else-form-eq1.result c.if-i-lt-HEAD_LEN.false c.if-k-runs.false (omega arith) c.end_byte-else-form-eq1.ensures
