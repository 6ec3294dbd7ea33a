use Rattle.std.proofs.Common.{◌≡◌, ◌++◌, ◌∷◌, [], set, sym, ap, subst, ◌∙◌}
use Rattle.mv_base.specs.Effects.{with_base}
use Rattle.x86_machine.proofs.Describing.{with-there, with-absent}
use Rattle.x86_machine.proofs.descs.Descs.set.Goals as goal

pub returns-in-Some-clause-made : goal.returns-in-Some-clause-made
returns-in-Some-clause-made c =
    let k = c.in-Some.place in
    let i = c.args.index in
    let b = c.args.base in
    sym (ap (λ v. with_base v.made i b) (sym c.self.view_is) ∙ subst (λ xs. with_base xs i b ≡ set xs k (i, b)) c.as_slice.ensures.value (with-there i c.as_slice.result.now b k (sym c.in-Some.ensures)))

pub returns-in-None-clause-made : goal.returns-in-None-clause-made
returns-in-None-clause-made c =
    let i = c.args.index in
    let b = c.args.base in
    c.push_reserved.ensures.items ∙ sym (ap (λ v. with_base v.made i b) (sym c.self.view_is) ∙ subst (λ xs. with_base xs i b ≡ xs ++ (i, b) ∷ []) c.as_slice.ensures.value (with-absent i c.as_slice.result.now b (sym c.in-None.ensures)))
