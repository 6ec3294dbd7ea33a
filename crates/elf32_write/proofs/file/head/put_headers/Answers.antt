use Rattle.std.proofs.Common.{arith}
use Rattle.elf32_write.specs.File.{header_words}
use Rattle.elf32_write.proofs.HeadBytes.{none_yet, one_more, all_done}
use Rattle.elf32_write.proofs.file.head.put_headers.Goals as goal

pub loop-header-init : goal.loop-header-init
loop-header-init c = none_yet header_words c.args.to.now.items

pub loop-header-preserved : goal.loop-header-preserved
loop-header-preserved c =
    one_more header_words c.args.to.now.items c.loop-header.to.items c.put_words.new.to.items c.args.headers.now c.loop-header.header-index _ c.header_words.result
    (omega arith) c.loop-header.invariant c.header_words.ensures c.in_ok-put_words.ensures

pub returns : goal.returns
returns c = all_done header_words c.args.to.now.items c.loop-header.to.items c.args.headers.now c.loop-header.header-index (omega arith) c.loop-header.invariant
