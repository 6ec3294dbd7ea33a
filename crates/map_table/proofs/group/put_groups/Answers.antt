use Rattle.std.proofs.Common.{◌≡◌, ◌++◌, ◌∙◌, ap, map, length, arith}
use Rattle.std.specs.List.{range_with_len}
use Rattle.mv_base.specs.Table.{group_count}
use Rattle.map_table.specs.Groups.{group_of, groups_in}
use Rattle.map_table.specs.laws.Counts.{group_more}
use Rattle.map_table.proofs.group.put_groups.Goals as goal

pub returns : goal.returns
unfolding groups_in
returns c =
    let all : c.loop-number.number ≡ group_count (length c.args.run.now.bytes) = omega arith in
    c.loop-number.invariant ∙ ap (λ n. c.args.to.now.items ++ map (group_of c.args.run.now) (range_with_len 0 n)) all

pub loop-number-preserved : goal.loop-number-preserved
loop-number-preserved c =
    group_more c.args.run.now c.loop-number.number c.args.to.now.items c.loop-number.to.items c.push.new.self.items c.group_at.result c.group_at.ensures c.loop-number.invariant c.in_ok-push.ensures.items
