use Rattle.elf32_write.proofs.HeadBytes.{header_parts}
use Rattle.elf32_write.proofs.file.head.put_all_headers.Goals as goal

pub returns : goal.returns
returns c =
    header_parts c.args.base c.args.added.now c.args.headers.now c.added_place-place.result c.args.to.now.items
    c.put_kept_headers.new.to.items c.put_headers.new.to.items c.put_kept_headers-2.new.to.items
    c.added_place-place.ensures c.in_ok-put_kept_headers.ensures c.in_ok-put_headers.ensures c.in_ok-put_kept_headers-2.ensures
