use Rattle.std.proofs.Common.{rules, ◌∙◌, sym}
use Rattle.simulation_laws.specs.laws.Finding.{stub_finds}
use Rattle.simulation_laws.proofs.stub.stub_at.Goals as goal

pub returns-clause-value : goal.returns-clause-value
returns-clause-value c = search rules

pub returns-clause-finds : goal.returns-clause-finds
returns-clause-finds c = λ yes x a s framed entered. stub_finds x c.args.frame.now a s (sym (returns-clause-value c) ∙ yes) framed entered
