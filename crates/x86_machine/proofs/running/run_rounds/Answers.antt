use Rattle.proc_image.specs.Paged.{cells}
use Rattle.x86_machine.proofs.Rounding.{goes-on, ends-there, stops-there, none-left}
use Rattle.x86_machine.proofs.running.run_rounds.Goals as goal

pub returns-then-not-again : goal.returns-then-not-again
returns-then-not-again c =
    ends-there _ c.loop-left.left c.args.insn.now c.args.descs.now.made c.loop-left.core (cells c.loop-left.memory) c.loop-left.invariant
    c.take_turn.new.core (cells c.take_turn.new.memory) c.in-Ok.again c.loop-left-test.true c.in-Ok.ensures.is c.if-not-again.true

pub returns-in-Err : goal.returns-in-Err
returns-in-Err c =
    stops-there _ c.loop-left.left c.args.insn.now c.args.descs.now.made c.loop-left.core (cells c.loop-left.memory) c.loop-left.invariant
    c.in-Err.stop c.take_turn.new.core (cells c.take_turn.new.memory) c.loop-left-test.true c.in-Err.ensures.is c.in-Err.ensures.kept.0 c.in-Err.ensures.kept.1

pub loop-left-preserved : goal.loop-left-preserved
loop-left-preserved c =
    goes-on _ c.loop-left.left c.args.insn.now c.args.descs.now.made c.loop-left.core (cells c.loop-left.memory) c.loop-left.invariant
    c.take_turn.new.core (cells c.take_turn.new.memory) c.in-Ok.again c.loop-left-test.true c.in-Ok.ensures.is c.if-not-again.false

pub returns : goal.returns
returns c = none-left _ c.loop-left.left c.args.insn.now c.args.descs.now.made c.loop-left.core (cells c.loop-left.memory) c.loop-left.invariant c.loop-left-test.false
