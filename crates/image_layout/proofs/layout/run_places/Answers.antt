use Rattle.std.proofs.Common.{refl, arith}
use Rattle.map_table.specs.laws.Counts.{apart_ends}
use Rattle.image_layout.proofs.OneByOne.{places_step, places_done, length-dirs}
use Rattle.image_layout.proofs.layout.run_places.Goals as goal

pub overflow_cast-len : goal.overflow_cast-len
overflow_cast-len c = omega (arith, apart_ends 0 c.args.runs.now c.requires.apart c.loop-index.index c.index-runs-index.result c.loop-index-test.true c.index-runs-index.is, c.len.ensures)

pub bounds-dirs-index : goal.bounds-dirs-index
bounds-dirs-index c = omega (arith, length-dirs c.args.runs.now c.args._lo c.args.dirs.now c.requires.dirs_are, c.loop-index-test.true)

pub loop-index-preserved : goal.loop-index-preserved
loop-index-preserved c =
    places_step c.args.runs.now c.args._lo c.loop-index.index c.index-runs-index.result c.args.dirs.now c.len.result _ c.loop-index.places.items c.push.new.self.items c.loop-index-test.true c.index-runs-index.is c.requires.dirs_are c.len.ensures refl c.loop-index.invariant c.in_ok-push.ensures.items

pub returns : goal.returns
returns c = places_done c.args.runs.now c.args._lo c.loop-index.index c.loop-index.places.items c.loop-index-test.false c.loop-index.invariant
