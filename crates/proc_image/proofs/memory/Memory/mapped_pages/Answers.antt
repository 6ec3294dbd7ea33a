use Rattle.std.proofs.Common.{ap, sym, ◌∙◌, ◌≡◌, ◌*◌, arith}
use Rattle.proc_image.specs.Counting.{mapped_pages, holds_mapped, count_below}
use Rattle.proc_image.specs.Paged.{cells}
use Rattle.proc_image.proofs.Counts.{count-zero, pages-more, pages-absent, pages-le}
use Rattle.proc_image.proofs.memory.Memory.mapped_pages.Goals as goal
use Rattle.proc_image.proofs.memory.Memory.mapped_pages.Goals.{then-not-is_table_absent, else-not-is_table_absent}

pub loop-table-init : goal.loop-table-init
loop-table-init c = record { counted = sym (count-zero (holds_mapped (cells c.args.self.now))); most = omega arith }

pub overflow_add-pages : goal.overflow_add-pages
overflow_add-pages c = let le = pages-le (cells c.args.self.now) (1024 * c.loop-table.table) 1024 in omega arith

pub loop-table-preserved : goal.loop-table-preserved
loop-table-preserved c =
    let more = pages-more (cells c.args.self.now) c.loop-table.table in
    let le = pages-le (cells c.args.self.now) (1024 * c.loop-table.table) 1024 in
    elim c.if-not-is_table_absent.branch [
      | then-not-is_table_absent w ↦ record { counted = omega arith; most = omega arith }
      | else-not-is_table_absent w ↦
          let none = pages-absent c.args.self.now c.loop-table.table (c.is_table_absent.ensures w.if-not-is_table_absent.false) in
          record { counted = omega arith; most = omega arith }
    ]

pub returns : goal.returns
unfolding mapped_pages
returns c =
    let all : 1024 * c.loop-table.table ≡ 0x100000 = omega arith in
    c.loop-table.invariant.counted ∙ ap (count_below (holds_mapped (cells c.args.self.now))) all
