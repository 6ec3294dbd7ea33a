-- Text that is put in pieces.
use Rattle.std.proofs.Common.{◌≡◌, ℕ, ◌+◌, ◌<◌, List, [], ◌∷◌, ◌++◌, length, take, drop, get_or, Option, Result, Ok, Err, IsErrAnd, sym, ap, ◌∙◌, subst, append-nil, append_assoc}
use Rattle.std.proofs.lemmas.List.{take-append-drop, take_more}
use Rattle.std.proofs.lemmas.List.Concat.{flat_map-append}
use Rattle.mv_base.specs.Appended.{AppendsPrefix, AppendsPrefix-after, AppendsPrefix-longer}
use Rattle.mv_base.specs.Printing.{Prints}
use Rattle.mv_base.specs.declared.sink.SinkFault.{SinkFault}
use Rattle.superset.specs.declared.site.Site.{Site}
use Rattle.multiverse_cli.specs.Listing.{site_line, site_lines}
use Rattle.multiverse_cli.specs.Steps.{PutsFull}

-- from what was written at the start, a first part of the text was put, and the rest is gathered
pub record IsGathered (start now piece text : List ℕ) : Type 0 where
  pub done : List ℕ
  pub put : now ≡ start ++ done
  pub text_is : text ≡ done ++ piece

pub gathered-nothing : (start piece : List ℕ) → piece ≡ [] → IsGathered start start piece []
gathered-nothing start piece e = record { done = []; put = sym (append-nil start); text_is = sym e }

module _ (start now piece text : List ℕ) (h : IsGathered start now piece text) where
  -- a line more
  pub with-line : (line more : List ℕ) → more ≡ piece ++ line → IsGathered start now more (text ++ line)
  with-line line more e = record {
    done = h.done;
    put = h.put;
    text_is = ap (λ t. t ++ line) h.text_is ∙ append_assoc h.done piece line ∙ ap (λ t. h.done ++ t) (sym e);
  }

  -- what was put is a part with which a longer text begins
  pub put-part : (whole rest : List ℕ) → whole ≡ text ++ rest → AppendsPrefix start now whole
  put-part whole rest e = record {
    part = h.done;
    rest = piece ++ rest;
    begins = e ∙ ap (λ t. t ++ rest) h.text_is ∙ append_assoc h.done piece rest;
    appended = h.put;
  }

  -- and so is it where a part of the piece was put after it
  pub put-more : (then whole rest : List ℕ) → whole ≡ text ++ rest → AppendsPrefix now then piece → AppendsPrefix start then whole
  put-more then whole rest e more =
      let P : List ℕ → Type 0 = AppendsPrefix start then in
      let upto = AppendsPrefix-after start now then h.done piece h.put more in
      subst P (ap (λ t. t ++ rest) (sym h.text_is) ∙ sym e) (AppendsPrefix-longer start then (h.done ++ piece) rest upto)

  -- a piece that was put where it was full
  pub put-full : {A : Type 0} (x : A) (left then : List ℕ) → PutsFull {E = SinkFault} (Ok x) piece left now then → IsGathered start then left text
  put-full x left then put = record {
    done = h.done ++ put.0;
    put = put.1 ∙ ap (λ t. t ++ put.0) h.put ∙ append_assoc start h.done put.0;
    text_is = h.text_is ∙ ap (λ t. h.done ++ t) put.2 ∙ sym (append_assoc h.done put.0 left);
  }

  -- the last piece
  pub put-last : {A E : Type 0} (r : Result A E) (then : List ℕ) → Prints r piece now then → Prints r text start then
  put-last (Ok x) then put = put ∙ ap (λ t. t ++ piece) h.put ∙ append_assoc start h.done piece ∙ ap (λ t. start ++ t) (sym h.text_is)
  put-last (Err e) then put =
      let P : List ℕ → Type 0 = AppendsPrefix start then in
      subst P (sym h.text_is) (AppendsPrefix-after start now then h.done piece h.put put)

-- a put that failed
pub put-failed :
    {A E : Type 0} (r : Result A E) (P : E → Type 0) (start then text : List ℕ) → IsErrAnd r P → AppendsPrefix start then text
    → Prints r text start then
put-failed (Ok x) P start then text is part = absurd is
put-failed (Err e) P start then text is part = part

-- ---- the lines of sites

module _ (code : ℕ → Option ℕ) (ss : List Site) (i : ℕ) where
  -- those of the first sites, and those of the others
  pub lines-split : site_lines code ss ≡ site_lines code (take i ss) ++ site_lines code (drop i ss)
  lines-split = ap (site_lines code) (sym (take-append-drop i ss)) ∙ flat_map-append (site_line code) (take i ss) (drop i ss)

  -- those of one site more
  pub lines-more :
      (other : Site) → i < length ss
      → site_lines code (take (i + 1) ss) ≡ site_lines code (take i ss) ++ site_line code (get_or ss i other)
  lines-more other below =
      ap (site_lines code) (take_more ss i other below)
      ∙ flat_map-append (site_line code) (take i ss) (get_or ss i other ∷ [])
      ∙ ap (λ l. site_lines code (take i ss) ++ l) (append-nil (site_line code (get_or ss i other)))
