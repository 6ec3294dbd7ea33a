-- What a call that grows a list leaves there when memory runs out.
use Rattle.std.specs.Prelude.{◌≡◌, ℕ, List, [], ◌++◌}
use Rattle.std.proofs.Common.{sym, refl, ap, ◌∙◌, append_assoc, append-nil}

-- the new list is the old one followed by a part with which the text begins
pub record AppendsPrefix (old new text : List ℕ) : Type 0 where
  pub part : List ℕ
  pub rest : List ℕ
  pub begins : text ≡ part ++ rest
  pub appended : new ≡ old ++ part

-- a list that is unchanged has no part of the text yet
pub AppendsPrefix-same : (old new text : List ℕ) → new ≡ old → AppendsPrefix old new text
AppendsPrefix-same old new text same =
    record { part = []; rest = text; begins = refl; appended = same ∙ sym (append-nil old) }

-- a list with the whole text has a part of it
pub AppendsPrefix-whole : (old new text : List ℕ) → new ≡ old ++ text → AppendsPrefix old new text
AppendsPrefix-whole old new text whole =
    record { part = text; rest = []; begins = sym (append-nil text); appended = whole }

-- a part with which a text begins is one with which a longer text begins
pub AppendsPrefix-longer : (old new text more : List ℕ) → AppendsPrefix old new text → AppendsPrefix old new (text ++ more)
AppendsPrefix-longer old new text more was =
    record {
      part = was.part;
      rest = was.rest ++ more;
      begins = ap (λ t. t ++ more) was.begins ∙ append_assoc was.part was.rest more;
      appended = was.appended;
    }

-- after a whole text, a part of the next one is a part of the two together
pub AppendsPrefix-after :
    (old middle new first next : List ℕ) → middle ≡ old ++ first → AppendsPrefix middle new next
    → AppendsPrefix old new (first ++ next)
AppendsPrefix-after old middle new first next whole was =
    record {
      part = first ++ was.part;
      rest = was.rest;
      begins = ap (λ t. first ++ t) was.begins ∙ sym (append_assoc first was.part was.rest);
      appended = was.appended ∙ ap (λ t. t ++ was.part) whole ∙ append_assoc old first was.part;
    }

-- the lemma for a call that appended nothing
pub ruleset unchanged = AppendsPrefix-same
