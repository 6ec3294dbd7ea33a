use Rattle.elf32_write.proofs.HeadBytes.{elf_parts}
use Rattle.elf32_write.proofs.file.head.put_elf_header.Goals as goal

pub returns-clause-bytes : goal.returns-clause-bytes
returns-clause-bytes c =
    elf_parts c.args.to.now.items c.args.image.now.ident c.args.image.now.e_flags c.args.entry c.args.count
    c.extend_from_slice.new.self.items c.extend_from_slice-2.new.self.items c.put_halves.new.to.items c.put_words.new.to.items c.put_halves-2.new.to.items
    c.in_ok-extend_from_slice.ensures.items c.in_ok-extend_from_slice-2.ensures.items c.in_ok-put_halves.ensures c.in_ok-put_words.ensures c.in_ok-put_halves-2.ensures
