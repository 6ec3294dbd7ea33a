-- The bytes of the file, then zeros, behind what the run has.
use Rattle.std.proofs.Common.{◌≡◌, ◌++◌, ap, ◌∙◌, ◌-◌, ◌+◌, take, drop, vec_len}
use Rattle.elf32_read.proofs.Bytes.{filled_up}
use Rattle.elf32_read.proofs.run.extended.Goals as goal

pub returns : goal.returns
returns c =
    let held : c.extend_from_slice.new.self.items ≡ c.args.run.bytes ++ take c.args.segment.now.filesz (drop c.args.segment.now.offset c.args.bytes.now) =
    c.in_ok-extend_from_slice.ensures.items ∙ ap (λ x. x ++ c.file_bytes.result.now) (c.in_ok-reserve.ensures.items ∙ c.into_vec-held.ensures)
    ∙ ap (λ x. c.args.run.bytes ++ x) c.file_bytes.ensures in
    let all : c.len-3.result + (c.len-2.result - c.args.segment.now.filesz) ≡ vec_len c.extend_from_slice.new.self + (c.args.segment.now.range.len - c.args.segment.now.filesz) =
    ap (λ n. n + (c.len-2.result - c.args.segment.now.filesz)) c.len-3.ensures
    ∙ ap (λ n. vec_len c.extend_from_slice.new.self + (n - c.args.segment.now.filesz)) c.len-2.ensures in
    ap (λ x. record { lo = c.args.run.lo; bytes = x })
    (c.new.ensures
    ∙ filled_up c.args.bytes.now c.args.segment.now c.args.run.bytes c.extend_from_slice.new.self.items c.resize.new.self.items
    (vec_len c.extend_from_slice.new.self) (c.len-3.result + (c.len-2.result - c.args.segment.now.filesz))
    held c.extend_from_slice.new.self.ok.0 all c.in_ok-resize.ensures.items)
