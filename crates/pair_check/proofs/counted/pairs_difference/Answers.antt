use Rattle.std.proofs.Common.{◌≡◌, ◌∙◌, sym, ap, arith}
use Rattle.elf32_read.specs.Runs.{code_of}
use Rattle.simulation_laws.specs.Code.{site_at}
use Rattle.pair_check.specs.Parts.{counts_site}
use Rattle.pair_check.proofs.Marks.{right_goes, wrong_site, wrong_order, none_wrong, right_at, way_has}
use Rattle.pair_check.proofs.counted.pairs_difference.Goals as goal

pub returns-then-not-counts_site : goal.returns-then-not-counts_site
returns-then-not-counts_site c =
    let f = c.args.frame.now in
    let k = c.loop-index.index in
    let is = c.ordered_count-ordered.ensures in
    let code = code_of c.args.runs.now in
    let lt = c.loop-index-test.true in
    let has = way_has f c.ordered_count-ordered.result k c.pair_at.result c.in_ok-others.others.items c.index.result.now (omega (arith, lt)) c.pair_at.ensures.is c.in_ok-others.ensures c.index.ensures in
    let counts = c.counts_site.ensures f has in
    let wrong = ap (λ p. counts_site f p (site_at code p.0)) (sym c.pair_at.ensures.is) ∙ (sym counts ∙ c.if-not-counts_site.true) in
    c.pair_differs.ensures ∙ sym (wrong_site code f c.ordered_count-ordered.result k is (omega (arith, lt)) wrong c.loop-index.invariant)

pub loop-index-preserved : goal.loop-index-preserved
loop-index-preserved c =
    let f = c.args.frame.now in
    let k = c.loop-index.index in
    let is = c.ordered_count-ordered.ensures in
    let code = code_of c.args.runs.now in
    let lt = c.loop-index-test.true in
    let has = way_has f c.ordered_count-ordered.result k c.pair_at.result c.in_ok-others.others.items c.index.result.now (omega (arith, lt)) c.pair_at.ensures.is c.in_ok-others.ensures c.index.ensures in
    let counts = c.counts_site.ensures f has in
    let right = ap (λ p. counts_site f p (site_at code p.0)) (sym c.pair_at.ensures.is) ∙ (sym counts ∙ c.if-not-counts_site.false) in
    right_goes code f c.ordered_count-ordered.result k is (omega (arith, lt)) right c.loop-index.invariant

pub returns-then-ordered-counter_count : goal.returns-then-ordered-counter_count
returns-then-ordered-counter_count c =
    let f = c.args.frame.now in
    let n = c.ordered_count-ordered.result in
    let is = c.ordered_count-ordered.ensures in
    let code = code_of c.args.runs.now in
    let all : c.loop-index.index ≡ n = omega (arith, c.loop-index-test.false, c.loop-index.auto) in
    c.pair_differs-then-ordered-counter_count.ensures ∙ sym (wrong_order code f n is (omega (arith, c.if-ordered-counter_count.true, c.counter_count.ensures)) (right_at code f c.loop-index.index n all c.loop-index.invariant))

pub returns : goal.returns
returns c =
    let f = c.args.frame.now in
    let n = c.ordered_count-ordered.result in
    sym (none_wrong (code_of c.args.runs.now) f c.loop-index.index (omega (arith, c.loop-index-test.false, c.if-ordered-counter_count.false, c.counter_count.ensures, c.ordered_count-ordered.ensures.within)) c.loop-index.invariant)
