use Rattle.std.proofs.Common.{◌≡◌, ◌/◌, ◌%◌, ◌<◌, arith, [], List, length, set, get_or, ap, ◌∙◌}
use Rattle.proc_image.proofs.Pages.{row_of, table_of_row, cell_in-with_cell, room-with_cell}
use Rattle.proc_image.specs.Paged.{Page, cells, cell_in, page_of, page_in}
use Rattle.proc_image.proofs.memory.Memory.set.Goals as goal

pub index_mut-requires : goal.index_mut-requires
index_mut-requires c = let below : c.args.at / 4096 / 1024 < length c.args.self.now.directory.items = row_of c.args.self.now c.args.at c.requires.room in omega arith

pub set-requires : goal.set-requires
unfolding page_of page_in
set-requires c =
    let before : c.index_mut.result.now ≡ get_or c.args.self.now.directory.items (c.args.at / 4096 / 1024) [] =
    table_of_row c.args.self.now c.args.at c.index_mut.result.now c.requires.room c.index_mut.ensures.value in
    rw before c.requires.room

-- the table after the call
table : (c : goal.After-self-1) → c.set.new.self ≡ set (get_or c.args.self.now.directory.items (c.args.at / 4096 / 1024) []) (c.args.at / 4096 % 1024) (set (page_in c.args.self.now.directory.items (c.args.at / 4096)) (c.args.at % 4096) c.args.cell)
unfolding page_in
table c =
    c.set.ensures
    ∙ ap (λ (r : List Page). set r (c.args.at / 4096 % 1024) (set (get_or r (c.args.at / 4096 % 1024) []) (c.args.at % 4096) c.args.cell))
    (table_of_row c.args.self.now c.args.at c.index_mut.result.now c.requires.room c.index_mut.ensures.value)

pub returns-clause-here : goal.returns-clause-here
unfolding cells page_of
returns-clause-here c =
    ap (λ (t : List Page). cell_in (set c.args.self.now.directory.items (c.args.at / 4096 / 1024) t)) (table c)
    ∙ cell_in-with_cell c.args.self.now.directory.items c.args.at c.args.cell c.requires.low c.requires.room

pub returns-clause-room : goal.returns-clause-room
unfolding page_of
returns-clause-room c q =
    ap (λ (t : List Page). length (page_in (set c.args.self.now.directory.items (c.args.at / 4096 / 1024) t) q)) (table c)
    ∙ room-with_cell c.args.self.now.directory.items (c.args.at / 4096) (c.args.at % 4096) c.args.cell q c.requires.room
