use Rattle.std.proofs.Common.{◌∙◌}
use Rattle.multiverse_cli.proofs.Samples.{fits, not-sampled}
use Rattle.multiverse_cli.proofs.verdict.sampled.Goals as goal

pub rewritten_by-requires-clause-fits : goal.rewritten_by-requires-clause-fits
rewritten_by-requires-clause-fits c =
    fits c.args.number c.args.size c.as_slice.result.now (c.as_slice.ensures.value ∙ c.in_ok-image.ensures) c.requires.most

pub returns-in_err-rewritten : goal.returns-in_err-rewritten
returns-in_err-rewritten c =
    not-sampled c.args.number c.args.size c.as_slice.result.now (c.as_slice.ensures.value ∙ c.in_ok-image.ensures) c.args.output.now
    c.requires.some c.requires.most c.in_err-rewritten.field-0.0 _ c.in_err-rewritten.ensures.rewritten
    c.from_residual-in_err-rewritten.ensures.1
