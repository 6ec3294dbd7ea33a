use Rattle.std.proofs.Common.{◌↔◌, IsTrue, arith}
use Rattle.std.specs.List.{All}
use Rattle.mv_base.specs.Effects.{IsEffect}
use Rattle.syscall_log.specs.Meaning.{effect_of}
use Rattle.syscall_log.specs.Rules.{AllByRecursion-effects, All-effects}
use Rattle.syscall_log.proofs.answer.Answer.keeps_bounds.Goals as goal

pub returns-in-Ret : goal.returns-in-Ret
returns-in-Ret c =
    let all : IsTrue c.keep_bounds.result ↔ All (λ e. IsEffect (effect_of e)) c.in-Ret.effects = rw c.as_slice.ensures at c.keep_bounds.ensures in
    rw c.in-Ret.is (λ t. (omega arith, AllByRecursion-effects c.in-Ret.effects (all.0 t)), λ a. all.1 (All-effects c.in-Ret.effects a.1))
