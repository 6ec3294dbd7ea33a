use Rattle.std.proofs.Common.{◌≡◌, rules, ◌∙◌}
use Rattle.x86_insn.specs.Flow.{flow_of}
use Rattle.branch_lengthen.specs.Near.{near_size}
use Rattle.branch_lengthen.specs.laws.Lengths.{near_sized}
use Rattle.branch_lengthen.proofs.pieces.near_len.Goals as goal

pub returns-in-Jump-clause-bytes : goal.returns-in-Jump-clause-bytes
returns-in-Jump-clause-bytes c = λ own here to same.
    let size : near_size (flow_of c.args.site.now.insn) c.args.site.now.len ≡ 5 = search rules in
    near_sized c.args.site.now.insn own c.args.site.now.len here to same c.requires ∙ size

pub returns-in-Branch-clause-bytes : goal.returns-in-Branch-clause-bytes
returns-in-Branch-clause-bytes c = λ own here to same.
    let size : near_size (flow_of c.args.site.now.insn) c.args.site.now.len ≡ 6 = search rules in
    near_sized c.args.site.now.insn own c.args.site.now.len here to same c.requires ∙ size

pub returns-in-Count-clause-bytes : goal.returns-in-Count-clause-bytes
returns-in-Count-clause-bytes c = λ own here to same.
    let size : near_size (flow_of c.args.site.now.insn) c.args.site.now.len ≡ 9 = search rules in
    near_sized c.args.site.now.insn own c.args.site.now.len here to same c.requires ∙ size
