use Rattle.std.proofs.Common.{◌∙◌, sym, ap, arith}
use Rattle.pair_check.proofs.Marks.{not_there, marked, no_way}
use Rattle.pair_check.proofs.counted.mark.Goals.{else-there-wanted-via-then-there-wanted+else-there-wanted-2, else-there-wanted-via-else-there-wanted}
use Rattle.pair_check.proofs.counted.mark.Goals as goal

pub returns-then-not-is_way : goal.returns-then-not-is_way
returns-then-not-is_way c = no_way c.args.frame.now c.args.ordered c.args.pair c.args.marks.now.items c.requires.count (sym c.is_way.ensures ∙ c.if-not-is_way.true)

pub returns-then-place-ordered : goal.returns-then-place-ordered
returns-then-place-ordered c =
    not_there c.args.frame.now c.args.ordered c.place_of-place.result c.args.pair c.args.marks.now.items c.requires.count c.place_of-place.ensures (λ lt e. omega (arith, lt, c.if-place-ordered.true))

pub returns-then-there-wanted-2 : goal.returns-then-there-wanted-2
returns-then-there-wanted-2 c =
    let address = ap (λ p. p.0) c.pair_at-there.ensures.is in
    let kind = ap (λ p. p.1) c.pair_at-there.ensures.is in
    marked c.args.frame.now c.args.ordered c.place_of-place.result c.args.pair c.args.marks.now.items c.requires.count c.requires.high c.place_of-place.ensures
    (omega (arith, c.place_of-place.ensures.within, c.if-place-ordered.false)) (sym address ∙ c.if-there-wanted.true) (sym kind ∙ c.if-there-wanted-2.true)

pub returns-else-there-wanted : goal.returns-else-there-wanted
returns-else-there-wanted c =
    let address = ap (λ p. p.0) c.pair_at-there.ensures.is in
    let kind = ap (λ p. p.1) c.pair_at-there.ensures.is in
    not_there c.args.frame.now c.args.ordered c.place_of-place.result c.args.pair c.args.marks.now.items c.requires.count c.place_of-place.ensures
    (λ lt e. elim c.else-there-wanted.branch [
      | else-there-wanted-via-then-there-wanted+else-there-wanted-2 w ↦ w.if-there-wanted-2.false (kind ∙ ap (λ p. p.1) e)
      | else-there-wanted-via-else-there-wanted w ↦ w.if-there-wanted.false (address ∙ ap (λ p. p.0) e)
    ])
