use Rattle.std.proofs.Common.{◌∙◌, length, sym, ap, subst, arith}
use Rattle.elf32_read.specs.Runs.{AreSpread}
use Rattle.pair_check.specs.Parts.{room_differs, runs_differ}
use Rattle.pair_check.proofs.Answering.{spread, few_runs, pairs_there, fourth_of, fifth_of}
use Rattle.pair_check.proofs.checking.parts_difference.Goals as goal

pub runs_difference-requires-clause-spread : goal.runs_difference-requires-clause-spread
runs_difference-requires-clause-spread c = subst (AreSpread 0) (sym c.requires.runs) (spread c.args.original.now c.requires.image.whole)

pub runs_difference-requires-clause-few : goal.runs_difference-requires-clause-few
runs_difference-requires-clause-few c = omega (arith, ap length c.requires.runs, few_runs c.args.original.now c.requires.admitted)

pub pairs_difference-requires : goal.pairs_difference-requires
pairs_difference-requires c = subst (AreSpread 0) (sym c.requires.runs) (spread c.args.original.now c.requires.image.whole)

pub returns-in-Some-3 : goal.returns-in-Some-3
returns-in-Some-3 c =
    let f = c.args.frame.now in
    let room = sym (c.room_difference.ensures ∙ ap (room_differs f) (c.as_slice.ensures ∙ c.requires.image.segments_are)) in
    let runs = sym (c.runs_difference.ensures ∙ ap (λ rs. runs_differ rs f) c.requires.runs) in
    let pairs = sym (c.in_ok-found-2.ensures ∙ pairs_there c.args.original.now f c.args.runs.now c.requires.image.whole c.requires.runs) in
    fourth_of _ _ _ _ _ c.in-Some-3.found (room ∙ c.in_default.is) (runs ∙ c.in_default-runs_difference.is) (sym c.in_ok-found.ensures ∙ c.in_default-2.is) (pairs ∙ c.in-Some-3.is)

pub returns : goal.returns
returns c =
    let f = c.args.frame.now in
    let room = sym (c.room_difference.ensures ∙ ap (room_differs f) (c.as_slice.ensures ∙ c.requires.image.segments_are)) in
    let runs = sym (c.runs_difference.ensures ∙ ap (λ rs. runs_differ rs f) c.requires.runs) in
    let pairs = sym (c.in_ok-found-2.ensures ∙ pairs_there c.args.original.now f c.args.runs.now c.requires.image.whole c.requires.runs) in
    c.stub_part.ensures ∙ fifth_of _ _ _ _ _ (room ∙ c.in_default.is) (runs ∙ c.in_default-runs_difference.is) (sym c.in_ok-found.ensures ∙ c.in_default-2.is) (pairs ∙ c.in_default-3.is)
