use Rattle.std.proofs.Common.{ap, get_or, ◌∷◌, [], arith}
use Rattle.elf32_write.specs.File.{pair_words}
use Rattle.elf32_write.proofs.HeadBytes.{none_yet, one_more, all_done}
use Rattle.elf32_write.proofs.file.block.put_pairs.Goals as goal

pub loop-pair-init : goal.loop-pair-init
loop-pair-init c = none_yet pair_words c.args.to.now.items

pub loop-pair-preserved : goal.loop-pair-preserved
loop-pair-preserved c =
    one_more pair_words c.args.to.now.items c.loop-pair.to.items c.put_words.new.to.items c.args.pairs.now c.loop-pair.pair-index _ _
    (omega arith) c.loop-pair.invariant (ap (λ n. (get_or c.args.pairs.now c.loop-pair.pair-index (0, 0)).0 ∷ n ∷ []) c.from.ensures) c.in_ok-put_words.ensures

pub returns : goal.returns
returns c = all_done pair_words c.args.to.now.items c.loop-pair.to.items c.args.pairs.now c.loop-pair.pair-index (omega arith) c.loop-pair.invariant
