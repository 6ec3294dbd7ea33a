use Rattle.std.proofs.Common.{rules, ◌∙◌, sym}
use Rattle.simulation_laws.specs.laws.Pieced.{pieced}
use Rattle.simulation_laws.proofs.piece.piece_at.Goals as goal

pub returns-clause-value : goal.returns-clause-value
returns-clause-value c = search rules

pub returns-clause-law : goal.returns-clause-law
returns-clause-law c = λ yes b x rel has. pieced b x c.args.frame.now c.args.run.now c.args.site.now c.requires.site c.requires.ascends (sym (returns-clause-value c) ∙ yes) rel has
