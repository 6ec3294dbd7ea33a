use Rattle.x86_machine.specs.Stepping.{answers_from, state_of}
use Rattle.x86_machine.proofs.Coming.{absent-stops, unknown-stops}
use Rattle.x86_machine.proofs.machine.Machine.step_anew.Goals as goal

pub returns-in-Absent-clause-is : goal.returns-in-Absent-clause-is
returns-in-Absent-clause-is c = absent-stops (state_of c.args.self.now (answers_from c.args.answers.now.log.now c.args.answers.now.next)) (c.in-Absent.ensures {u = tt})

pub returns-in-Unknown-clause-is : goal.returns-in-Unknown-clause-is
returns-in-Unknown-clause-is c = unknown-stops (state_of c.args.self.now (answers_from c.args.answers.now.log.now c.args.answers.now.next)) (c.in-Unknown.ensures {u = tt})
