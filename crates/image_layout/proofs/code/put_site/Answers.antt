use Rattle.std.proofs.Common.{ℕ, ◌++◌, List, ap, ◌∙◌}
use Rattle.std.proofs.lemmas.Result.{on_ok_weaker}
use Rattle.elf32_read.specs.Runs.{code_of}
use Rattle.image_layout.specs.Layout.{moved}
use Rattle.image_layout.proofs.Putting.{put_counted, put_alone}
use Rattle.image_layout.proofs.code.put_site.Goals as goal

pub returns-in_ok-extend_from_slice-in-Some : goal.returns-in_ok-extend_from_slice-in-Some
returns-in_ok-extend_from_slice-in-Some c =
    let now = c.args.code.now.items in
    let mid_is = c.in_ok-extend_from_slice-in-Some.ensures.items ∙ ap (λ (l : List ℕ). now ++ l) c.as_slice.ensures in
    on_ok_weaker c.put_piece.result
    (λ new_is. put_counted c.args.anchors (moved c.args.table.now.pairs) (code_of c.args.runs.now) c.args.places.all c.args.places.ways c.in-Some.counter c.args.here c.len.result c.args.site.now now c.counter_piece-front.result c.extend_from_slice.new.self.items c.put_piece.new.code.items c.in-Some.is c.counter_piece-front.ensures c.len.ensures mid_is new_is)
    c.put_piece.ensures

pub returns-in-None : goal.returns-in-None
returns-in-None c =
    on_ok_weaker c.put_piece-in-None.result
    (λ new_is. put_alone c.args.anchors (moved c.args.table.now.pairs) (code_of c.args.runs.now) c.args.places.all c.args.places.ways c.args.here c.args.site.now c.args.code.now.items c.put_piece-in-None.new.code.items c.in-None.is new_is)
    c.put_piece-in-None.ensures
