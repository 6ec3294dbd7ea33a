use Rattle.std.proofs.Common.{◌≡◌, ◌%◌, length, ap, sym, ◌∙◌, arith}
use Rattle.mv_base.specs.Memory.{exec_byte, exec_bytes}
use Rattle.proc_image.specs.Paged.{Page, cells, exec_byte_in}
use Rattle.proc_image.proofs.Executing.{exec-page}
use Rattle.proc_image.proofs.memory.Memory.is_code.Goals as goal
use Rattle.proc_image.proofs.memory.Memory.is_code.Goals.{After-is_code}

-- the page's bytes are those of the memory
same : (c : After-is_code) → exec_bytes (exec_byte_in c.in-Some.page.now) (c.args.at % 4096) (length c.args.bytes.now) ≡ exec_bytes (exec_byte (cells c.args.self.now)) c.args.at (length c.args.bytes.now)
same c =
    ap (λ (p : Page). exec_bytes (exec_byte_in p) (c.args.at % 4096) (length c.args.bytes.now)) c.in-Some.ensures
    ∙ exec-page c.args.self.now c.args.at (length c.args.bytes.now) c.if-at-lt-LIMIT.true (omega arith)

pub returns : goal.returns
returns c = (λ yes. sym (same c) ∙ c.is_code.ensures.0 yes, λ all. c.is_code.ensures.1 (same c ∙ all))
