use Rattle.map_table.specs.laws.Reading.{laws}
use Rattle.map_table.proofs.table.Table.bytes.Goals as goal

pub returns-clause-len : goal.returns-clause-len
returns-clause-len c = (laws c.args.self.now _ _ c.self.inside.bytes.items c.as_slice.result.now c.self.invariant c.self.view_is c.as_slice.ensures.value).len

pub returns-clause-reads : goal.returns-clause-reads
returns-clause-reads c = (laws c.args.self.now _ _ c.self.inside.bytes.items c.as_slice.result.now c.self.invariant c.self.view_is c.as_slice.ensures.value).reads_are

pub returns-clause-inside : goal.returns-clause-inside
returns-clause-inside c = (laws c.args.self.now _ _ c.self.inside.bytes.items c.as_slice.result.now c.self.invariant c.self.view_is c.as_slice.ensures.value).inside_are
