use Rattle.std.proofs.Common.{◌≡◌, [], ◌∷◌, ◌+◌, ◌∙◌, sym, ap, length, drop, arith}
use Rattle.elf32_read.specs.Runs.{code_of}
use Rattle.elf32_write.specs.Frame.{frame_map}
use Rattle.simulation_laws.specs.Front.{difference}
use Rattle.simulation_laws.specs.Pieces.{piece_with}
use Rattle.simulation_laws.specs.Relocated.{counter_there}
use Rattle.simulation_laws.specs.Standing.{piece_over, way_there}
use Rattle.simulation_laws.specs.laws.Fronts.{append_some, append_none, none_fits}
use Rattle.simulation_laws.proofs.piece.difference_behind.Goals as goal

pub returns-in-Some : goal.returns-in-Some
returns-in-Some c =
    let f = c.args.frame.now in
    let s = c.args.site.now in
    let code = code_of (c.args.run.now ∷ []) in
    let over = piece_over f code s in
    let made = c.site_piece-piece.ensures (frame_map f) code (c.map.ensures ∙ ap (frame_map f) c.target.ensures) c.own_bytes-own.ensures.bytes in
    let stub_is = c.lo.ensures ∙ ap (λ r. r.lo) c.code.ensures in
    let is : c.as_slice-piece.result.now ≡ over = c.as_slice-piece.ensures ∙ (made ∙ (λ i. piece_with (record { stub = stub_is i; private = c.private.ensures i }) (frame_map f) code (c.requires.ways i) (c.requires.here i) s)) in
    let from : c.from-from.result ≡ length (counter_there f s) = omega (arith, c.from-from.ensures, c.map-2.ensures, c.requires.here) in
    let first : c.first_difference.result ≡ difference (length (counter_there f s)) over c.args.code.now = c.first_difference.ensures ∙ (λ i. difference (from i) (is i) c.args.code.now) in
    sym (append_some (length (counter_there f s)) over (way_there f (c.args.here + length over) s) c.args.code.now c.in-Some.found (sym first ∙ c.in-Some.is))

pub overflow_add-next : goal.overflow_add-next
overflow_add-next c = omega (arith, c.requires.low, none_fits c.from-from.result c.as_slice-piece.result.now c.args.code.now (sym c.first_difference.ensures ∙ c.in_default.is))

pub returns : goal.returns
returns c =
    let f = c.args.frame.now in
    let s = c.args.site.now in
    let code = code_of (c.args.run.now ∷ []) in
    let over = piece_over f code s in
    let made = c.site_piece-piece.ensures (frame_map f) code (c.map.ensures ∙ ap (frame_map f) c.target.ensures) c.own_bytes-own.ensures.bytes in
    let stub_is = c.lo.ensures ∙ ap (λ r. r.lo) c.code.ensures in
    let whole : c.as_slice-piece.result.now ≡ over = c.as_slice-piece.ensures ∙ made ∙ (λ i. piece_with (record { stub = stub_is i; private = c.private.ensures i }) (frame_map f) code (c.requires.ways i) (c.requires.here i) s) in
    let from : c.from-from.result ≡ length (counter_there f s) = omega (arith, c.from-from.ensures, c.map-2.ensures, c.requires.here) in
    let first : c.first_difference.result ≡ difference (length (counter_there f s)) over c.args.code.now = c.first_difference.ensures ∙ (λ i. difference (from i) (whole i) c.args.code.now) in
    let n = ap length whole in
    let behind : c.behind.result.now ≡ drop (length over) c.args.code.now = c.behind.ensures ∙ ap (λ k. drop k c.args.code.now) n in
    c.way_difference.ensures
    ∙ ((λ i. difference (from i + n i) (way_there f (c.args.here + n i) s) (behind i))
    ∙ sym (append_none (length (counter_there f s)) over (way_there f (c.args.here + length over) s) c.args.code.now (sym first ∙ c.in_default.is)))
