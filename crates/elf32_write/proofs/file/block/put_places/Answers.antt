use Rattle.std.proofs.Common.{refl, arith}
use Rattle.elf32_write.specs.File.{place_words}
use Rattle.elf32_write.proofs.HeadBytes.{none_yet, one_more, all_done}
use Rattle.elf32_write.proofs.file.block.put_places.Goals as goal

pub loop-place-init : goal.loop-place-init
loop-place-init c = none_yet place_words c.args.to.now.items

pub loop-place-preserved : goal.loop-place-preserved
loop-place-preserved c =
    one_more place_words c.args.to.now.items c.loop-place.to.items c.put_words.new.to.items c.args.places.now c.loop-place.place-index _ _
    (omega arith) c.loop-place.invariant refl c.in_ok-put_words.ensures

pub returns : goal.returns
returns c = all_done place_words c.args.to.now.items c.loop-place.to.items c.args.places.now c.loop-place.place-index (omega arith) c.loop-place.invariant
