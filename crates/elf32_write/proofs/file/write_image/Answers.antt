use Rattle.std.proofs.Common.{◌≤◌, List, ℕ, length, ap, sym, subst, arith, drop}
use Rattle.std.proofs.lemmas.List.{length-take, length-drop}
use Rattle.elf32_write.specs.Plans.{ReadsBack}
use Rattle.elf32_write.specs.ReadBack.{reads_back}
use Rattle.elf32_write.proofs.HeadBytes.{count_headers, file_parts}
use Rattle.elf32_write.proofs.file.write_image.Goals as goal

pub returns-clause-reads_back : goal.returns-clause-reads_back
returns-clause-reads_back c keeps =
    let b = c.args.input.now in
    let p = c.args.plan.now in
    let long : 16 ≤ length b =
    omega (arith, c.in_ok-put_head.ensures.ident, ap (λ (l : List ℕ). length l) c.requires.image.ident, length-take 9 (drop 7 b), length-drop 7 b) in
    let headers = count_headers b p c.args.image.now.headers c.requires.image.headers_are in
    subst (ReadsBack b p) (sym (file_parts b p _ _ _ _ _ c.in_ok-put_head.ensures.head c.in_ok-put_padded.ensures c.as_slice.ensures c.in_ok-put_padded-2.ensures c.in_ok-put_table.ensures))
    (reads_back b p (record { ident = long; few_headers = omega (arith, headers, c.requires.headers); few_runs = c.requires.runs }) c.requires.input c.requires.block keeps)
