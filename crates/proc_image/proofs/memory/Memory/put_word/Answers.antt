use Rattle.std.proofs.Common.{◌∙◌, ◌%◌, ◌/◌, ◌∷◌, [], ap, sym, arith}
use Rattle.mv_base.specs.Memory.{put, address_after}
use Rattle.proc_image.specs.Paged.{cells}
use Rattle.proc_image.specs.Laws.{put-append}
use Rattle.proc_image.proofs.memory.Memory.put_word.Goals as goal

pub returns : goal.returns
returns c =
    c.put_byte-2.ensures
    ∙ ap (λ m. put m (address_after c.args.at 1) (c.args.n / 256 % 256 ∷ [])) c.put_byte.ensures
    ∙ sym (put-append (cells c.args.self.now) c.args.at (c.args.n % 256 ∷ []) (c.args.n / 256 % 256 ∷ []) (omega arith) (omega arith))
