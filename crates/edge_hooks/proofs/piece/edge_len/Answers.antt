use Rattle.std.proofs.Common.{◌≡◌, rules, ◌∙◌}
use Rattle.x86_insn.specs.Flow.{flow_of}
use Rattle.edge_hooks.specs.Edges.{edge_size}
use Rattle.edge_hooks.specs.laws.Lengths.{edge_sized}
use Rattle.edge_hooks.proofs.piece.edge_len.Goals as goal

pub returns-in-Branch-clause-bytes : goal.returns-in-Branch-clause-bytes
returns-in-Branch-clause-bytes c = λ here to passed taken is p t.
    let size : edge_size (flow_of c.args.site.now.insn) ≡ 105 = search rules in
    edge_sized c.args.site.now.insn here to passed taken is p t ∙ size

pub returns-in-Count-clause-bytes : goal.returns-in-Count-clause-bytes
returns-in-Count-clause-bytes c = λ here to passed taken is p t.
    let size : edge_size (flow_of c.args.site.now.insn) ≡ 101 = search rules in
    edge_sized c.args.site.now.insn here to passed taken is p t ∙ size
