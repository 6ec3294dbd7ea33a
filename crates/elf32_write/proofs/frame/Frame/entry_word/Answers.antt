use Rattle.std.proofs.Common.{◌∙◌, ap, sym, arith}
use Rattle.mv_base.specs.Table.{run_of}
use Rattle.elf32_write.specs.Frame.{Frame, TableAt}
use Rattle.elf32_write.proofs.RecordRuns.{found_run, entry_none, reads_flat, reads_page}
use Rattle.elf32_write.proofs.frame.Frame.entry_word.Goals as goal

pub returns-in_default : goal.returns-in_default
returns-in_default c = entry_none c.args.self.now c.args.address (c.in_default.ensures ∙ ap (λ (f : Frame). run_of f.runs c.args.address) c.self.view_is)

pub flat_word-requires-clause-from : goal.flat_word-requires-clause-from
flat_word-requires-clause-from c = (reads_flat c.args.self.now c.table-table.result c.args.address c.in-Some.run' (found_run c.self.inside.file.now c.args.self.now c.args.address c.in-Some.run' c.self.invariant c.self.view_is c.in-Some.ensures) c.table-table.ensures.is (ap (λ (t : TableAt). t.form) (sym c.table.view_is) ∙ c.if-table-eq-FLAT_FORM.true)).from

pub flat_word-requires-clause-low : goal.flat_word-requires-clause-low
flat_word-requires-clause-low c = (reads_flat c.args.self.now c.table-table.result c.args.address c.in-Some.run' (found_run c.self.inside.file.now c.args.self.now c.args.address c.in-Some.run' c.self.invariant c.self.view_is c.in-Some.ensures) c.table-table.ensures.is (ap (λ (t : TableAt). t.form) (sym c.table.view_is) ∙ c.if-table-eq-FLAT_FORM.true)).low

pub flat_word-requires-clause-high : goal.flat_word-requires-clause-high
flat_word-requires-clause-high c = (reads_flat c.args.self.now c.table-table.result c.args.address c.in-Some.run' (found_run c.self.inside.file.now c.args.self.now c.args.address c.in-Some.run' c.self.invariant c.self.view_is c.in-Some.ensures) c.table-table.ensures.is (ap (λ (t : TableAt). t.form) (sym c.table.view_is) ∙ c.if-table-eq-FLAT_FORM.true)).high

pub returns-then-table-eq-FLAT_FORM : goal.returns-then-table-eq-FLAT_FORM
returns-then-table-eq-FLAT_FORM c = c.flat_word.ensures ∙ sym (reads_flat c.args.self.now c.table-table.result c.args.address c.in-Some.run' (found_run c.self.inside.file.now c.args.self.now c.args.address c.in-Some.run' c.self.invariant c.self.view_is c.in-Some.ensures) c.table-table.ensures.is (ap (λ (t : TableAt). t.form) (sym c.table.view_is) ∙ c.if-table-eq-FLAT_FORM.true)).entry

pub page_of-page-requires-clause-from : goal.page_of-page-requires-clause-from
page_of-page-requires-clause-from c = (reads_page c.args.self.now c.table-table.result c.args.address c.in-Some.run' (found_run c.self.inside.file.now c.args.self.now c.args.address c.in-Some.run' c.self.invariant c.self.view_is c.in-Some.ensures) c.table-table.ensures.is (λ e. c.if-table-eq-FLAT_FORM.false (ap (λ (t : TableAt). t.form) c.table.view_is ∙ e))).from

pub page_of-page-requires-clause-below : goal.page_of-page-requires-clause-below
page_of-page-requires-clause-below c = (reads_page c.args.self.now c.table-table.result c.args.address c.in-Some.run' (found_run c.self.inside.file.now c.args.self.now c.args.address c.in-Some.run' c.self.invariant c.self.view_is c.in-Some.ensures) c.table-table.ensures.is (λ e. c.if-table-eq-FLAT_FORM.false (ap (λ (t : TableAt). t.form) c.table.view_is ∙ e))).below

pub page_of-page-requires-clause-low : goal.page_of-page-requires-clause-low
page_of-page-requires-clause-low c = (reads_page c.args.self.now c.table-table.result c.args.address c.in-Some.run' (found_run c.self.inside.file.now c.args.self.now c.args.address c.in-Some.run' c.self.invariant c.self.view_is c.in-Some.ensures) c.table-table.ensures.is (λ e. c.if-table-eq-FLAT_FORM.false (ap (λ (t : TableAt). t.form) c.table.view_is ∙ e))).low

pub page_of-page-requires-clause-high : goal.page_of-page-requires-clause-high
page_of-page-requires-clause-high c = (reads_page c.args.self.now c.table-table.result c.args.address c.in-Some.run' (found_run c.self.inside.file.now c.args.self.now c.args.address c.in-Some.run' c.self.invariant c.self.view_is c.in-Some.ensures) c.table-table.ensures.is (λ e. c.if-table-eq-FLAT_FORM.false (ap (λ (t : TableAt). t.form) c.table.view_is ∙ e))).high

pub word_in_page-requires-clause-from : goal.word_in_page-requires-clause-from
word_in_page-requires-clause-from c = (reads_page c.args.self.now c.table-table.result c.args.address c.in-Some.run' (found_run c.self.inside.file.now c.args.self.now c.args.address c.in-Some.run' c.self.invariant c.self.view_is c.in-Some.ensures) c.table-table.ensures.is (λ e. c.if-table-eq-FLAT_FORM.false (ap (λ (t : TableAt). t.form) c.table.view_is ∙ e))).from

pub word_in_page-requires-clause-low : goal.word_in_page-requires-clause-low
word_in_page-requires-clause-low c = omega (arith, c.page_of-page.ensures, (reads_page c.args.self.now c.table-table.result c.args.address c.in-Some.run' (found_run c.self.inside.file.now c.args.self.now c.args.address c.in-Some.run' c.self.invariant c.self.view_is c.in-Some.ensures) c.table-table.ensures.is (λ e. c.if-table-eq-FLAT_FORM.false (ap (λ (t : TableAt). t.form) c.table.view_is ∙ e))).page_low)

pub word_in_page-requires-clause-high : goal.word_in_page-requires-clause-high
word_in_page-requires-clause-high c = omega (arith, c.page_of-page.ensures, (reads_page c.args.self.now c.table-table.result c.args.address c.in-Some.run' (found_run c.self.inside.file.now c.args.self.now c.args.address c.in-Some.run' c.self.invariant c.self.view_is c.in-Some.ensures) c.table-table.ensures.is (λ e. c.if-table-eq-FLAT_FORM.false (ap (λ (t : TableAt). t.form) c.table.view_is ∙ e))).page_high)

pub returns : goal.returns
returns c = cc (c.word_in_page.ensures, c.page_of-page.ensures, (reads_page c.args.self.now c.table-table.result c.args.address c.in-Some.run' (found_run c.self.inside.file.now c.args.self.now c.args.address c.in-Some.run' c.self.invariant c.self.view_is c.in-Some.ensures) c.table-table.ensures.is (λ e. c.if-table-eq-FLAT_FORM.false (ap (λ (t : TableAt). t.form) c.table.view_is ∙ e))).entry)
