-- What was written is followed by what the writer took of the piece.
use Rattle.std.proofs.Common.{◌≡◌, ◌≤◌, ◌-◌, ℕ, List, ◌++◌, length, take, drop, sym, ap, ◌∙◌, arith, append_assoc, take-append-drop}
use Rattle.std.proofs.lemmas.List.{take_rest, take-take, length-take}
use Rattle.std.proofs.KnownBytes.{Appends-trans}
use Rattle.mv_base.proofs.pieces.write_pieces.Goals as goal

-- the bytes that were taken move from the rest to what is done
moves_front :
    (all done rest : List ℕ) (piece taken : ℕ) → all ≡ done ++ rest → taken ≤ length (take piece rest)
    → all ≡ (done ++ take taken (take piece rest)) ++ take (length rest - taken) (drop taken rest)
moves_front all done rest piece taken split fits =
    let within : taken ≤ piece = omega (arith, length-take piece rest) in
    rw (take-take taken piece rest within, take_rest rest taken)
    (split ∙ ap (λ l. done ++ l) (sym (take-append-drop taken rest)) ∙ sym (append_assoc done (take taken rest) (drop taken rest)))

pub loop-rest-preserved : goal.loop-rest-preserved
loop-rest-preserved g c =
    let (done, split, appended) = c.loop-rest.invariant in
    let rest = c.loop-rest.rest.now in
    let piece = c.min.result in
    let taken = c.in_ok-taken.taken in (
      done ++ take taken (take piece rest),
      moves_front _ done rest piece taken split c.in_ok-taken.ensures.bound,
      Appends-trans _ _ _ _ _ appended c.in_ok-taken.ensures.bytes,
    )
