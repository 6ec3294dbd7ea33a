use Rattle.std.proofs.Common.{◌≡◌, ◌∙◌, ap, sym, refl, subst, Ok, arith}
use Rattle.elf32_write.specs.Frame.{frame}
use Rattle.syscall_log.specs.Meaning.{answers_of}
use Rattle.x86_machine.specs.Stepping.{answers_from, state_of}
use Rattle.trace_run.specs.Reports.{Reaches, ToAll, ToStop}
use Rattle.trace_run.proofs.Running.{begins, completes, goes, goes_on, ends}
use Rattle.trace_run.proofs.tracing.run.Goals as goal

pub loop-done-init : goal.loop-done-init
loop-done-init c =
    let enough = c.requires.room in
    record {
      log = refl;
      next = omega arith;
      room = omega arith;
      descs = c.requires.descs;
      reached = begins (state_of c.args.machine (answers_of c.args.log.now.answers));
    }

pub returns-in-Some : goal.returns-in-Some
returns-in-Some c =
    let before = state_of c.loop-done.machine (answers_from c.loop-done.answers.log.now c.loop-done.answers.next) in
    let left = answers_from c.step-outcome.new.answers.log.now c.step-outcome.new.answers.next in
    let ended = sym c.in_ok-end.ensures ∙ ap Ok c.in-Some.is in
    ToStop (ends (frame c.args.file.now) _ c.args.steps c.loop-done.done before (state_of c.step-outcome.new.self left)
    c.loop-done.invariant.reached c.loop-done-test.true _ c.step-outcome.result c.in-Some.end
    ended c.step-outcome.ensures.is (c.in_ok-report_of.ensures left))

pub loop-done-preserved : goal.loop-done-preserved
loop-done-preserved c =
    let before = state_of c.loop-done.machine (answers_from c.loop-done.answers.log.now c.loop-done.answers.next) in
    let after = state_of c.step-outcome.new.self (answers_from c.step-outcome.new.answers.log.now c.step-outcome.new.answers.next) in
    let going = sym c.in_ok-end.ensures ∙ ap Ok c.in_default.is in
    record {
      log = c.step-outcome.ensures.log ∙ c.loop-done.invariant.log;
      next = c.step-outcome.ensures.next;
      room = c.step-outcome.ensures.room;
      descs = c.step-outcome.ensures.descs (completes c.step-outcome.result going);
      reached = goes_on _ c.loop-done.done before after c.loop-done.invariant.reached
          (goes before after c.step-outcome.result going c.step-outcome.ensures.is);
    }

pub returns : goal.returns
returns c =
    let over = c.loop-done-test.false in
    let most = c.loop-done.auto.done-end in
    let last = state_of c.loop-done.machine (answers_from c.loop-done.answers.log.now c.loop-done.answers.next) in
    let all : c.loop-done.done ≡ c.args.steps = omega arith in
    ToAll (record {
      last = last;
      reached = subst (λ n. Reaches (state_of c.args.machine (answers_of c.args.log.now.answers)) n last) all c.loop-done.invariant.reached;
      shown = c.in_ok-report_of-2.ensures (answers_from c.loop-done.answers.log.now c.loop-done.answers.next);
    })
