use Rattle.std.proofs.Common.{ℕ, ◌++◌, List, refl, ap, sym, ◌∙◌}
use Rattle.mv_base.specs.Memory.{exec_bytes}
use Rattle.elf32_read.specs.Runs.{code_of}
use Rattle.image_layout.specs.Layout.{moved}
use Rattle.image_layout.proofs.Putting.{with_by, own_with}
use Rattle.image_layout.proofs.code.put_piece.Goals as goal

pub returns-then-is_copied : goal.returns-then-is_copied
returns-then-is_copied c =
    let code = code_of c.args.runs.now in
    let own = c.bytes_from-own.ensures ∙ ap (λ (n : ℕ). exec_bytes code c.args.site.now.at n) c.from.ensures in
    let is = own_with c.args.ways c.args.anchors (moved c.args.table.now.pairs) code c.args.here c.args.site.now c.requires.branches (sym c.is_copied.ensures ∙ c.if-is_copied.true) in
    c.in_ok-extend_from_slice.ensures.items ∙ ap (λ (l : List ℕ). c.args.code.now.items ++ l) (own ∙ is)

pub returns : goal.returns
returns c =
    let code = code_of c.args.runs.now in
    let own = c.bytes_from-own.ensures ∙ ap (λ (n : ℕ). exec_bytes code c.args.site.now.at n) c.from.ensures in
    let is = c.site_piece-piece.ensures (λ _. c.target_place.result) code refl own
    ∙ with_by c.args.ways c.args.anchors (moved c.args.table.now.pairs) code c.args.here c.args.site.now c.target_place.result c.requires.branches c.target_place.ensures in
    c.in_ok-extend_from_slice-2.ensures.items ∙ ap (λ (l : List ℕ). c.args.code.now.items ++ l) (c.as_slice.ensures ∙ is)
