use Rattle.std.proofs.Common.{sym, ◌∙◌}
use Rattle.call_rewrite.specs.Far.{load_of}
use Rattle.call_rewrite.specs.laws.Lengths.{far_sized}
use Rattle.call_rewrite.proofs.pieces.far_len.Goals as goal

pub returns-clause-bytes : goal.returns-clause-bytes
returns-clause-bytes c = λ next here goal private. far_sized (load_of c.args.site.now.insn) c.args.site.now.insn next here goal private ∙ sym c.far_piece_len.ensures
