use Rattle.std.proofs.Common.{◌≡◌, ◌≢◌, ℕ, List, ◌++◌, Option, Some, None, Bor, MatchOption, ap, ◌∙◌, sym}
use Rattle.std.specs.Option.{option_copied}
use Rattle.std.proofs.lemmas.Bool.Decides.{Decides-eqb}
use Rattle.std.proofs.lemmas.Slice.Eq.{strip_prefix_is}
use Rattle.mv_base.specs.Reading.{behind}
use Rattle.mv_base.specs.Prefixes.{behind-again, behind-none}
use Rattle.mv_base.proofs.reading.behind.Goals as goal

copied-is : (prefix text : List ℕ) (r : Option (Bor (List ℕ))) → MatchOption r ((rest : List ℕ) → text ≢ prefix ++ rest) (λ x. text ≡ prefix ++ x.now) → option_copied r ≡ behind prefix text
copied-is prefix text None h = sym (behind-none prefix text h)
copied-is prefix text (Some x) h = sym (ap (behind prefix) h ∙ behind-again prefix x.now)

pub returns : goal.returns
returns c =
    copied-is c.args.prefix.now c.args.text.now c.strip_prefix.result (strip_prefix_is Decides-eqb c.args.text.now c.args.prefix.now _ c.strip_prefix.ensures.cases)
