use Rattle.std.proofs.Common.{◌++◌, Some, option_map, sym, ap, ◌∙◌, append-nil, arith, rules, tests}
use Rattle.mv_base.specs.Reading.{pairs_in}
use Rattle.mv_base.specs.Digits.{pairs_in-more, pairs_in-stuck, pairs_in-end, pairs_in-odd}
use Rattle.mv_base.proofs.reading.hex_pairs.Goals as goal

pub returns-in_default : goal.returns-in_default
returns-in_default c =
    sym (pairs_in-stuck c.loop-rest.bytes.items c.loop-rest.rest.now c.args.text.now _ c.loop-rest.invariant (omega arith) c.split_at.ensures.front (sym c.in_default.ensures.value))

pub loop-rest-preserved : goal.loop-rest-preserved
loop-rest-preserved c =
    let next = pairs_in-more c.loop-rest.bytes.items c.loop-rest.rest.now c.args.text.now _ _ c.in-Some.byte c.loop-rest.invariant (omega arith) c.split_at.ensures.front c.split_at.ensures.back (sym c.in-Some.ensures.value) in
    ap (λ bytes. option_map (λ more. bytes ++ more) (pairs_in c.split_at.result.1.now)) c.in_ok-push.ensures.items ∙ next

pub returns-then-is_empty : goal.returns-then-is_empty
returns-then-is_empty c =
    let none = pairs_in-end c.loop-rest.rest.now (search (rules, tests)) in
    sym (
    sym c.loop-rest.invariant
    ∙ ap (option_map (λ more. c.loop-rest.bytes.items ++ more)) none
    ∙ ap Some (append-nil c.loop-rest.bytes.items ∙ sym c.new.ensures))

pub returns-else-is_empty : goal.returns-else-is_empty
returns-else-is_empty c =
    let odd = pairs_in-odd c.loop-rest.rest.now (search (rules, tests)) in
    sym (sym c.loop-rest.invariant ∙ ap (option_map (λ more. c.loop-rest.bytes.items ++ more)) odd)
