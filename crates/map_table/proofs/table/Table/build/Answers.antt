use Rattle.std.proofs.Common.{arith}
use Rattle.map_table.specs.laws.Reading.{has_room}
use Rattle.map_table.proofs.table.Table.build.Goals as goal

pub dirs_of-requires-clause-room : goal.dirs_of-requires-clause-room
dirs_of-requires-clause-room c = omega (arith, has_room (record { runs = c.args.runs.now; pairs = c.args.pairs.now; lo = c.args.lo }) c.requires)
