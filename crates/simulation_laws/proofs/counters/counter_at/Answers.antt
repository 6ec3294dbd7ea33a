use Rattle.std.proofs.Common.{sym, ap, ◌∙◌, arith}
use Rattle.std.specs.Prelude.{Some}
use Rattle.simulation_laws.specs.laws.Counters.{found_from, missed_from, next_found, next_missed}
use Rattle.simulation_laws.proofs.counters.counter_at.Goals as goal

pub returns-then-number-counter_count-clause-is : goal.returns-then-number-counter_count-clause-is
returns-then-number-counter_count-clause-is c =
    sym (missed_from c.args.frame.now c.args.address c.args.kind c.args.number c.requires.ascends c.requires.from (λ lt that. omega (arith, lt, c.if-number-counter_count.true, c.counter_count.ensures)))

pub returns-then-number-counter_count-clause-next : goal.returns-then-number-counter_count-clause-next
returns-then-number-counter_count-clause-next c =
    next_missed c.args.frame.now c.args.address c.args.kind c.args.number c.requires.ascends c.requires.from (λ lt that. omega (arith, lt, c.if-number-counter_count.true, c.counter_count.ensures))

pub returns-then-counted_at-address-clause-is : goal.returns-then-counted_at-address-clause-is
returns-then-counted_at-address-clause-is c =
    sym (missed_from c.args.frame.now c.args.address c.args.kind c.args.number c.requires.ascends c.requires.from (λ lt that. c.if-counted_at-address.true (c.counted_at.ensures ∙ that.0)))

pub returns-then-counted_at-address-clause-next : goal.returns-then-counted_at-address-clause-next
returns-then-counted_at-address-clause-next c =
    next_missed c.args.frame.now c.args.address c.args.kind c.args.number c.requires.ascends c.requires.from (λ lt that. c.if-counted_at-address.true (c.counted_at.ensures ∙ that.0))

pub returns-then-kind_at-kind-clause-is : goal.returns-then-kind_at-kind-clause-is
returns-then-kind_at-kind-clause-is c =
    sym (missed_from c.args.frame.now c.args.address c.args.kind c.args.number c.requires.ascends c.requires.from (λ lt that. c.if-kind_at-kind.true (c.kind_at.ensures.value ∙ that.1)))

pub returns-then-kind_at-kind-clause-next : goal.returns-then-kind_at-kind-clause-next
returns-then-kind_at-kind-clause-next c =
    next_missed c.args.frame.now c.args.address c.args.kind c.args.number c.requires.ascends c.requires.from (λ lt that. c.if-kind_at-kind.true (c.kind_at.ensures.value ∙ that.1))

pub returns-clause-is : goal.returns-clause-is
returns-clause-is c =
    ap Some c.counter_place.ensures
    ∙ sym (found_from c.args.frame.now c.args.address c.args.kind c.args.number c.requires.from (omega (arith, c.requires.from.within, c.if-number-counter_count.false, c.counter_count.ensures))
    (sym c.counted_at.ensures ∙ c.if-counted_at-address.false, sym c.kind_at.ensures.value ∙ c.if-kind_at-kind.false))

pub returns-clause-next : goal.returns-clause-next
returns-clause-next c =
    next_found c.args.frame.now c.args.address c.args.kind c.args.number c.requires.ascends c.requires.from (omega (arith, c.requires.from.within, c.if-number-counter_count.false, c.counter_count.ensures))
    (sym c.counted_at.ensures ∙ c.if-counted_at-address.false, sym c.kind_at.ensures.value ∙ c.if-kind_at-kind.false)
