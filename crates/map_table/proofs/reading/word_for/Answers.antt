use Rattle.std.proofs.Common.{refl, sym, ◌∙◌, arith}
use Rattle.map_table.proofs.Words.{reads_here, later, nowhere, has_dirs}
use Rattle.map_table.proofs.reading.word_for.Goals as goal

pub bounds-dirs-index : goal.bounds-dirs-index
bounds-dirs-index c = omega (arith, has_dirs (record { runs = c.args.runs.now; pairs = c.args._pairs.now; lo = c.args.lo }) c.args.dirs.now c.args.bytes.now c.requires, c.loop-index-test.true)

pub word_in_page-requires-clause-low : goal.word_in_page-requires-clause-low
word_in_page-requires-clause-low c = (reads_here (record { runs = c.args.runs.now; pairs = c.args._pairs.now; lo = c.args.lo }) c.args.dirs.now c.args.bytes.now c.args.address c.requires c.loop-index.index c.index-runs-index.result c.loop-index-test.true c.index-runs-index.is c.loop-index.invariant _ refl (sym c.is_in_run.ensures.value ∙ c.if-is_in_run.true)).low

pub word_in_page-requires-clause-high : goal.word_in_page-requires-clause-high
word_in_page-requires-clause-high c = (reads_here (record { runs = c.args.runs.now; pairs = c.args._pairs.now; lo = c.args.lo }) c.args.dirs.now c.args.bytes.now c.args.address c.requires c.loop-index.index c.index-runs-index.result c.loop-index-test.true c.index-runs-index.is c.loop-index.invariant _ refl (sym c.is_in_run.ensures.value ∙ c.if-is_in_run.true)).high

pub word_in_page-requires-clause-page_low : goal.word_in_page-requires-clause-page_low
word_in_page-requires-clause-page_low c = (reads_here (record { runs = c.args.runs.now; pairs = c.args._pairs.now; lo = c.args.lo }) c.args.dirs.now c.args.bytes.now c.args.address c.requires c.loop-index.index c.index-runs-index.result c.loop-index-test.true c.index-runs-index.is c.loop-index.invariant _ refl (sym c.is_in_run.ensures.value ∙ c.if-is_in_run.true)).page_low

pub word_in_page-requires-clause-page_high : goal.word_in_page-requires-clause-page_high
word_in_page-requires-clause-page_high c = (reads_here (record { runs = c.args.runs.now; pairs = c.args._pairs.now; lo = c.args.lo }) c.args.dirs.now c.args.bytes.now c.args.address c.requires c.loop-index.index c.index-runs-index.result c.loop-index-test.true c.index-runs-index.is c.loop-index.invariant _ refl (sym c.is_in_run.ensures.value ∙ c.if-is_in_run.true)).page_high

pub returns-then-is_in_run : goal.returns-then-is_in_run
returns-then-is_in_run c = c.word_in_page.ensures ∙ (reads_here (record { runs = c.args.runs.now; pairs = c.args._pairs.now; lo = c.args.lo }) c.args.dirs.now c.args.bytes.now c.args.address c.requires c.loop-index.index c.index-runs-index.result c.loop-index-test.true c.index-runs-index.is c.loop-index.invariant _ refl (sym c.is_in_run.ensures.value ∙ c.if-is_in_run.true)).entry

pub loop-index-preserved : goal.loop-index-preserved
loop-index-preserved c = later (record { runs = c.args.runs.now; pairs = c.args._pairs.now; lo = c.args.lo }) c.args.dirs.now c.args.bytes.now c.args.address c.requires c.loop-index.index c.index-runs-index.result c.loop-index-test.true c.index-runs-index.is c.loop-index.invariant (sym c.is_in_run.ensures.value ∙ c.if-is_in_run.false)

pub returns : goal.returns
returns c = nowhere (record { runs = c.args.runs.now; pairs = c.args._pairs.now; lo = c.args.lo }) c.args.dirs.now c.args.bytes.now c.args.address c.requires c.loop-index.index c.loop-index-test.false c.loop-index.invariant
