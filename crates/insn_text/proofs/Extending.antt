-- A list that is extended step by step.
use Rattle.std.proofs.Common.{◌≡◌, ℕ, List, [], ◌++◌, ◌∙◌, ap, sym, append_assoc, append-nil, take, length}
use Rattle.std.proofs.Math.Seq.{take-append_seam}
use Rattle.insn_text.specs.Extends.{Extends}

pub by_part : (old new part : List ℕ) → new ≡ old ++ part → Extends old new
by_part old new part e = record { part = part; appended = e }

pub by_none : (old new : List ℕ) → new ≡ old → Extends old new
by_none old new e = record { part = []; appended = e ∙ sym (append-nil old) }

pub in_two : (a b c : List ℕ) → Extends a b → Extends b c → Extends a c
in_two a b c p q = record {
  part = p.part ++ q.part;
  appended = q.appended ∙ ap (λ x. x ++ q.part) p.appended ∙ append_assoc a p.part q.part;
}

pub in_three : (a b c d : List ℕ) → Extends a b → Extends b c → Extends c d → Extends a d
in_three a b c d p q r = in_two a c d (in_two a b c p q) r

pub in_four : (a b c d e : List ℕ) → Extends a b → Extends b c → Extends c d → Extends d e → Extends a e
in_four a b c d e p q r s = in_two a d e (in_three a b c d p q r) s

pub ruleset extending = (by_part, by_none, in_two, in_three, in_four)

-- a list that was extended, cut back to how long it was
pub back : (old more cut : List ℕ) (n : ℕ) → n ≡ length old → Extends old more → cut ≡ take n more → cut ≡ old
back old more cut n e x c = c ∙ ap (λ k. take k more) e ∙ ap (take (length old)) x.appended ∙ take-append_seam old x.part

pub ruleset cut_back = back
