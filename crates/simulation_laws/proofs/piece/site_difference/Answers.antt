use Rattle.std.proofs.Common.{◌≡◌, ℕ, [], ◌∷◌, ◌++◌, ◌+◌, ◌∙◌, List, sym, ap, length, drop, zero-add, arith}
use Rattle.std.proofs.lemmas.List.{length-drop}
use Rattle.elf32_read.specs.Runs.{code_of}
use Rattle.elf32_write.specs.Frame.{frame_map}
use Rattle.simulation_laws.specs.Front.{difference}
use Rattle.simulation_laws.specs.Pieces.{counter_code}
use Rattle.simulation_laws.specs.Relocated.{anchors_of, counter_there, piece_place}
use Rattle.simulation_laws.specs.Standing.{code_from, piece_over, way_there}
use Rattle.simulation_laws.specs.laws.Fronts.{append_some, append_none, none_fits}
use Rattle.simulation_laws.proofs.piece.site_difference.Goals as goal

pub returns-in-Some : goal.returns-in-Some
returns-in-Some c =
    let f = c.args.frame.now in
    let s = c.args.site.now in
    let over = piece_over f (code_of (c.args.run.now ∷ [])) s in
    let rest = over ++ way_there f (piece_place f s + length over) s in
    let code_is : c.code_from-code.result.now ≡ code_from f (frame_map f s.at) = c.code_from-code.ensures.is ∙ ap (code_from f) c.map-entry.ensures in
    let counter : c.counter_bytes-counter.result ≡ counter_there f s = c.counter_bytes-counter.ensures (anchors_of f) c.private.ensures ∙ ap (counter_code (anchors_of f)) c.requires.all in
    let first : c.first_difference.result ≡ difference 0 (counter_there f s) (code_from f (frame_map f s.at)) = c.first_difference.ensures ∙ (λ i. difference 0 ((c.as_slice.ensures ∙ counter) i) (code_is i)) in
    sym (append_some 0 (counter_there f s) rest (code_from f (frame_map f s.at)) c.in-Some.found (sym first ∙ c.in-Some.is))

pub overflow_add-here : goal.overflow_add-here
overflow_add-here c = omega (arith, c.code_from-code.ensures.low, c.len.ensures, ap length c.as_slice.ensures, none_fits 0 c.as_slice.result.now c.code_from-code.result.now (sym c.first_difference.ensures ∙ c.in_default.is))

pub difference_behind-requires-clause-low : goal.difference_behind-requires-clause-low
difference_behind-requires-clause-low c =
    omega (arith, c.code_from-code.ensures.low, c.len.ensures, c.len-2.ensures, ap length c.behind.ensures, length-drop c.len-2.result c.code_from-code.result.now, ap length c.as_slice.ensures, none_fits 0 c.as_slice.result.now c.code_from-code.result.now (sym c.first_difference.ensures ∙ c.in_default.is))

pub returns : goal.returns
returns c =
    let f = c.args.frame.now in
    let s = c.args.site.now in
    let over = piece_over f (code_of (c.args.run.now ∷ [])) s in
    let rest : ℕ → List ℕ = λ here. over ++ way_there f (here + length over) s in
    let code_is : c.code_from-code.result.now ≡ code_from f (frame_map f s.at) = c.code_from-code.ensures.is ∙ ap (code_from f) c.map-entry.ensures in
    let counter : c.counter_bytes-counter.result ≡ counter_there f s = c.counter_bytes-counter.ensures (anchors_of f) c.private.ensures ∙ ap (counter_code (anchors_of f)) c.requires.all in
    let first : c.first_difference.result ≡ difference 0 (counter_there f s) (code_from f (frame_map f s.at)) = c.first_difference.ensures ∙ (λ i. difference 0 ((c.as_slice.ensures ∙ counter) i) (code_is i)) in
    let here : c.map-entry.result + c.len.result ≡ piece_place f s = λ i. c.map-entry.ensures i + (c.len.ensures ∙ ap length counter) i in
    let behind : c.behind.result.now ≡ drop (length (counter_there f s)) (code_from f (frame_map f s.at)) = c.behind.ensures ∙ (λ i. drop ((c.len-2.ensures ∙ ap length counter) i) (code_is i)) in
    c.difference_behind.ensures
    ∙ ((λ i. difference (length (counter_there f s)) (rest (here i)) (behind i))
    ∙ (ap (λ n. difference n (rest (piece_place f s)) (drop (length (counter_there f s)) (code_from f (frame_map f s.at)))) (sym (zero-add (length (counter_there f s))))
    ∙ sym (append_none 0 (counter_there f s) (rest (piece_place f s)) (code_from f (frame_map f s.at)) (sym first ∙ c.in_default.is))))
