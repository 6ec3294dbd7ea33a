use Rattle.std.proofs.Common.{ℕ, List, sym, ap, ◌∙◌, arith}
use Rattle.mini_asm.proofs.Splitting.{digits-some, digits-none, digits-end, all-digits, rest_is}
use Rattle.mini_asm.proofs.words.digits.Goals as goal

pub returns-in_default-clause-value : goal.returns-in_default-clause-value
returns-in_default-clause-value c =
    let none = digits-none c.loop-at.value c.args.text.now c.loop-at.at (omega arith) (sym c.in_default.ensures.value) in
    ap (λ (p : ℕ × List ℕ). p.0) (sym none ∙ c.loop-at.invariant)

pub returns-in_default-clause-rest : goal.returns-in_default-clause-rest
returns-in_default-clause-rest c =
    let none = digits-none c.loop-at.value c.args.text.now c.loop-at.at (omega arith) (sym c.in_default.ensures.value) in
    rest_is c.args.text.now c.loop-at.at ∙ ap (λ (p : ℕ × List ℕ). p.1) (sym none ∙ c.loop-at.invariant)

pub loop-at-preserved : goal.loop-at-preserved
loop-at-preserved c =
    sym (digits-some c.loop-at.value c.args.text.now c.loop-at.at c.in-Some.low (omega arith) (sym c.in-Some.ensures.value)) ∙ c.loop-at.invariant

pub returns-clause-value : goal.returns-clause-value
returns-clause-value c =
    ap (λ (p : ℕ × List ℕ). p.0) (sym (digits-end c.loop-at.value c.args.text.now c.loop-at.at (omega arith)) ∙ c.loop-at.invariant)

pub returns-clause-rest : goal.returns-clause-rest
returns-clause-rest c = all-digits c.loop-at.value c.args.text.now c.loop-at.at (omega arith) c.loop-at.invariant
