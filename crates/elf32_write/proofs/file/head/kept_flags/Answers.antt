use Rattle.elf32_write.proofs.HeadBytes.{kept_flags}
use Rattle.elf32_write.proofs.file.head.kept_flags.Goals as goal

pub returns : goal.returns
returns c = kept_flags c.args.flags c.ranges.flags.fits
