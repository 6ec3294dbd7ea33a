use Rattle.std.proofs.Common.{◌∙◌, sym}
use Rattle.elf32_read.specs.Limits.{exceeded-image}
use Rattle.pair_check.proofs.Answering.{no_refusal, refused_limit}
use Rattle.pair_check.proofs.checking.check_image.Goals as goal

pub check_framed-requires-clause-admitted : goal.check_framed-requires-clause-admitted
check_framed-requires-clause-admitted c = sym (exceeded-image c.args.original.now c.args.image.now c.requires.image) ∙ c.in-Ok.ensures

pub returns-in-None : goal.returns-in-None
returns-in-None c = record {
  whole = no_refusal c.args.original.now c.requires.image.whole (sym (exceeded-image c.args.original.now c.args.image.now c.requires.image) ∙ c.in-Ok.ensures);
  none = sym c.read_frame.ensures ∙ c.in-None.is;
}

pub returns-in-Err : goal.returns-in-Err
returns-in-Err c = refused_limit c.args.original.now c.in-Err.fault c.requires.image.whole (sym (exceeded-image c.args.original.now c.args.image.now c.requires.image) ∙ c.in-Err.ensures)
