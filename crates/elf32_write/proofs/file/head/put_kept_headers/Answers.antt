use Rattle.std.proofs.Common.{◌∙◌, ap, arith}
use Rattle.elf32_read.specs.declared.image.Phdr.{Phdr}
use Rattle.elf32_write.specs.File.{header_words, kept_header}
use Rattle.elf32_write.proofs.HeadBytes.{none_yet, one_more, all_kept_done}
use Rattle.elf32_write.proofs.file.head.put_kept_headers.Goals as goal

pub loop-header-init : goal.loop-header-init
loop-header-init c = none_yet (λ h. header_words (kept_header h)) c.args.to.now.items

pub loop-header-preserved : goal.loop-header-preserved
loop-header-preserved c =
    one_more (λ h. header_words (kept_header h)) c.args.to.now.items c.loop-header.to.items c.put_words.new.to.items c.args.headers.now c.loop-header.header-index _ c.header_words.result
    (omega arith) c.loop-header.invariant (c.header_words.ensures ∙ ap (λ (h : Phdr). header_words h) c.kept_header.ensures) c.in_ok-put_words.ensures

pub returns : goal.returns
returns c = all_kept_done c.args.to.now.items c.loop-header.to.items c.args.headers.now c.loop-header.header-index (omega arith) c.loop-header.invariant
