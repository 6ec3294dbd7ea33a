-- The limits of the image are those of its file.
use Rattle.std.proofs.Common.{sym, ◌∙◌}
use Rattle.elf32_read.specs.Limits.{exceeded-image}
use Rattle.mv_rewrite.proofs.Assembled.{excess_fault}
use Rattle.mv_rewrite.proofs.rewriting.rewrite_image.Goals as goal

pub rewrite_admitted-requires-clause-admitted : goal.rewrite_admitted-requires-clause-admitted
rewrite_admitted-requires-clause-admitted g c = sym (exceeded-image c.args.bytes.now c.args.image.now c.requires.image) ∙ c.in-Ok.ensures

pub returns-in-Err-clause-rewritten : goal.returns-in-Err-clause-rewritten
returns-in-Err-clause-rewritten g c = excess_fault c.args.bytes.now c.args.image.now c.in-Err.fault c.requires.image c.in-Err.ensures
