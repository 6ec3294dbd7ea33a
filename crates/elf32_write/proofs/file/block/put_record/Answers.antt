use Rattle.std.proofs.Common.{List, ℕ, ap, ◌++◌, ◌∙◌}
use Rattle.std.specs.List.{flat_map}
use Rattle.mv_base.specs.Bytes.{words}
use Rattle.mv_base.specs.declared.range.RunPlace.{RunPlace}
use Rattle.elf32_write.specs.File.{place_words}
use Rattle.elf32_write.proofs.HeadBytes.{record_parts}
use Rattle.elf32_write.proofs.file.block.put_record.Goals as goal

pub returns : goal.returns
returns c =
    record_parts c.args.input_len c.args.plan.now c.args.to.now.items c.put_words.new.to.items c.put_places.new.to.items
    (c.in_ok-put_words.ensures ∙ ap (λ (l : List ℕ). c.args.to.now.items ++ words l) c.record_words.ensures)
    (c.in_ok-put_places.ensures ∙ ap (λ (l : List RunPlace). c.put_words.new.to.items ++ words (flat_map place_words l)) c.as_slice.ensures)
