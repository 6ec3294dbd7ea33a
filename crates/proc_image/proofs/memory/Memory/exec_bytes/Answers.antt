use Rattle.std.proofs.Common.{◌≡◌, ℕ, ◌%◌, ◌++◌, List, length, drop, ap, ◌∙◌}
use Rattle.mv_base.specs.Memory.{exec_byte, exec_bytes}
use Rattle.proc_image.specs.Paged.{Page, cells, exec_byte_in}
use Rattle.proc_image.proofs.Executing.{exec-page}
use Rattle.proc_image.proofs.memory.Memory.exec_bytes.Goals as goal

-- the page's bytes are those of the memory
same : (c : goal.After-exec_bytes) → exec_bytes (exec_byte_in c.in-Some.page.now) (c.args.at % 4096) 15 ≡ exec_bytes (exec_byte (cells c.args.self.now)) c.args.at 15
same c =
    ap (λ (p : Page). exec_bytes (exec_byte_in p) (c.args.at % 4096) 15) c.in-Some.ensures
    ∙ exec-page c.args.self.now c.args.at 15 c.if-at-lt-LIMIT.true c.if-place-le-PAGE_SIZE.true

pub returns-clause-copied : goal.returns-clause-copied
returns-clause-copied c = c.exec_bytes.ensures.copied ∙ ap (λ (bs : List ℕ). bs ++ drop (length bs) c.args.to.now) (same c)

pub returns-clause-number : goal.returns-clause-number
returns-clause-number c = c.exec_bytes.ensures.number ∙ ap (λ (bs : List ℕ). length bs) (same c)
