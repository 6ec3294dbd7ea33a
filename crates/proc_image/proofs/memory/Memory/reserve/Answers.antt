use Rattle.std.proofs.Common.{ℕ, ◌<◌, ◌/◌, [], List, length, get_or, set, ap, ◌∙◌, arith}
use Rattle.proc_image.specs.Paged.{Page, IsLonger, cells, page_of, page_in}
use Rattle.proc_image.proofs.Pages.{at_any, page_in-same, page_in-reserved, page_in-set, cell_in-longer}
use Rattle.proc_image.proofs.memory.Memory.reserve.Goals as goal

-- where there is no memory for another table
pages-err : (c : goal.After-from_residual) (q : ℕ) → IsLonger (page_in c.args.self.now.directory.items q) (page_in c.push.new.self.items q)
pages-err c = page_in-same c.args.self.now.directory.items c.push.new.self.items (λ i. ap (λ (d : List (List Page)). get_or d i []) c.in_err-push.ensures.items ∙ c.loop-self.invariant i)

pub returns-in_err-push-clause-same : goal.returns-in_err-push-clause-same
unfolding cells
returns-in_err-push-clause-same c = cell_in-longer c.args.self.now.directory.items c.push.new.self.items (pages-err c)

pub returns-in_err-push-clause-longer : goal.returns-in_err-push-clause-longer
unfolding page_of
returns-in_err-push-clause-longer c q = (pages-err c q).longer

-- the directory has the table
row : (c : goal.After-self-1) → c.args.number / 1024 < length c.loop-self.self.directory.items
row c = omega arith

pages : (c : goal.After-self-1) (q : ℕ) → IsLonger (page_in c.args.self.now.directory.items q) (page_in (set c.loop-self.self.directory.items (c.args.number / 1024) c.reserve.new.self) q)
pages c =
    page_in-reserved c.args.self.now.directory.items c.loop-self.self.directory.items (c.args.number / 1024) c.index_mut.result.now c.reserve.new.self
    c.loop-self.invariant (row c)
    (c.index_mut.ensures.value ∙ at_any c.loop-self.self.directory.items (c.args.number / 1024) c.index_mut.result.now [] (row c))
    c.reserve.ensures.longer

pub returns-clause-same : goal.returns-clause-same
unfolding cells
returns-clause-same c = cell_in-longer c.args.self.now.directory.items (set c.loop-self.self.directory.items (c.args.number / 1024) c.reserve.new.self) (pages c)

pub returns-clause-longer : goal.returns-clause-longer
unfolding page_of
returns-clause-longer c q = (pages c q).longer

pub returns-clause-room : goal.returns-clause-room
unfolding page_of
returns-clause-room c = rw (page_in-set c.loop-self.self.directory.items c.args.number c.reserve.new.self (row c)) c.reserve.ensures.room
