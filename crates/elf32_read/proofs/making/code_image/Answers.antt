use Rattle.mv_base.specs.Bytes.{word}
use Rattle.elf32_read.specs.Faultless.{put_together, faultless-image}
use Rattle.elf32_read.proofs.making.code_image.Goals as goal

pub returns-clause-is : goal.returns-clause-is
unfolding word
returns-clause-is c =
    put_together c.args.code.now _ _ _ _ _ _ _ _ c.in_ok-image.ensures.items c.in_ok-extend_from_slice.ensures.items
    c.in_ok-extend_from_slice-2.ensures.items c.to_le_bytes.ensures c.in_ok-extend_from_slice-3.ensures.items c.to_le_bytes-2.ensures
    c.in_ok-extend_from_slice-4.ensures.items c.in_ok-extend_from_slice-5.ensures.items

pub returns-clause-faultless : goal.returns-clause-faultless
returns-clause-faultless c = faultless-image c.args.code.now _ (returns-clause-is c)
