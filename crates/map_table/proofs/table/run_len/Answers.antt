use Rattle.std.proofs.Common.{arith}
use Rattle.map_table.specs.laws.Counts.{pages_all, page_more, pages_none, pages_bound, length-groups_in}
use Rattle.map_table.proofs.table.run_len.Goals as goal

pub loop-number-init : goal.loop-number-init
loop-number-init c = pages_all c.args.sites.now c.args.run.now c.group_count-count.result c.group_count-count.ensures

pub overflow_add-pages : goal.overflow_add-pages
overflow_add-pages c = omega (arith, page_more c.args.sites.now c.args.run.now _ c.loop-number.pages c.page_count-pages.result c.loop-number.number c.group_count-count.result c.group_at.result (omega arith) c.group_at.ensures c.page_count-pages.ensures c.loop-number.invariant, pages_bound c.args.sites.now c.args.run.now)

pub loop-number-preserved : goal.loop-number-preserved
loop-number-preserved c = page_more c.args.sites.now c.args.run.now _ c.loop-number.pages c.page_count-pages.result c.loop-number.number c.group_count-count.result c.group_at.result (omega arith) c.group_at.ensures c.page_count-pages.ensures c.loop-number.invariant

pub overflow_mul-result-2 : goal.overflow_mul-result-2
overflow_mul-result-2 c = omega (arith, pages_none c.args.sites.now c.args.run.now _ c.loop-number.pages c.loop-number.number c.group_count-count.result (omega arith) c.loop-number.invariant, pages_bound c.args.sites.now c.args.run.now)

pub overflow_add-result : goal.overflow_add-result
overflow_add-result c = omega (arith, pages_none c.args.sites.now c.args.run.now _ c.loop-number.pages c.loop-number.number c.group_count-count.result (omega arith) c.loop-number.invariant, pages_bound c.args.sites.now c.args.run.now)

pub returns : goal.returns
returns c = omega (arith, pages_none c.args.sites.now c.args.run.now _ c.loop-number.pages c.loop-number.number c.group_count-count.result (omega arith) c.loop-number.invariant, length-groups_in c.args.run.now)
