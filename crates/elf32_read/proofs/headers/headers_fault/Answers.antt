-- The first fault is that of the next header, or of one of those after it.
use Rattle.elf32_read.proofs.Tables.{first_fault, later_fault, no_fault}
use Rattle.elf32_read.proofs.headers.headers_fault.Goals as goal

pub returns-in-Some : goal.returns-in-Some
returns-in-Some c =
    first_fault c.args.len c.loop-index.free c.loop-index.index c.args.headers.now _ _ c.header_fault.result c.in-Some.fault c.loop-index-test.true c.loop-index.invariant c.header_fault.ensures c.in-Some.is

pub loop-index-preserved : goal.loop-index-preserved
loop-index-preserved c =
    later_fault c.args.len c.loop-index.free c.loop-index.index c.args.headers.now _ _ c.header_fault.result c.free_after-free.result c.loop-index-test.true c.loop-index.invariant c.header_fault.ensures c.in_default.is c.free_after-free.ensures

pub returns : goal.returns
returns c = no_fault c.args.len c.loop-index.free c.loop-index.index c.args.headers.now _ c.loop-index-test.false c.loop-index.invariant
