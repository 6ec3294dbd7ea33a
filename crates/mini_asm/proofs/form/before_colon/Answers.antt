use Rattle.std.proofs.Common.{◌≡◌, ◌≢◌, ℕ, List, ◌++◌, subst}
use Rattle.std.specs.Prelude.{MatchOption}
use Rattle.std.proofs.lemmas.Bool.Decides.{Decides-eqb}
use Rattle.std.proofs.lemmas.Slice.Eq.{strip_suffix_is}
use Rattle.mini_asm.proofs.form.before_colon.Goals as goal

pub returns : goal.returns
returns c =
    subst
    (λ (p : List ℕ). MatchOption c.strip_suffix.result ((front : List ℕ) → c.args.line.now ≢ front ++ p) (λ x. c.args.line.now ≡ x.now ++ p))
    c.as_slice.ensures
    (strip_suffix_is Decides-eqb c.args.line.now c.as_slice.result.now c.strip_suffix.result c.strip_suffix.ensures.cases)
