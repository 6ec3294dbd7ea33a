use Rattle.std.proofs.Common.{◌+◌, arith}
use Rattle.elf32_write.proofs.HeadBytes.{front_parts}
use Rattle.elf32_write.proofs.file.put_front.Goals as goal

pub returns-clause-front : goal.returns-clause-front
returns-clause-front c =
    front_parts c.args.input.now c.args.plan.now c.args.image.now (c.len.result + 3) c.args.file.now.items c.put_elf_header.new.to.items c.put_all_headers.new.to.items c.added_headers-added.result c.as_slice.result.now
    c.requires.image (omega arith) c.requires.empty c.in_ok-put_elf_header.ensures.bytes c.added_headers-added.ensures c.as_slice.ensures c.in_ok-put_all_headers.ensures
