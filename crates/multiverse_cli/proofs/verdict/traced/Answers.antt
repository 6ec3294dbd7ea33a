use Rattle.std.proofs.Common.{◌++◌, ◌∙◌, refl, ap}
use Rattle.trace_run.specs.Texts.{text_of}
use Rattle.multiverse_cli.proofs.Tracing.{untraced-verdict}
use Rattle.multiverse_cli.proofs.verdict.traced.Goals as goal

pub returns-in_err-report : goal.returns-in_err-report
returns-in_err-report c =
    untraced-verdict c.args.steps c.args.image.now c.args.log.now c.in_ok-log.log c.in_err-report.field-0.0 _
    (record { sound = c.in_ok-header.ensures.whole; spelled = c.in_ok-log.ensures.log }) c.in_err-report.ensures
    c.from_residual-in_err-report.ensures.1

pub returns : goal.returns
returns c = record {
  log = c.in_ok-log.log;
  traceable = record { sound = c.in_ok-header.ensures.whole; spelled = c.in_ok-log.ensures.log };
  report = c.in_ok-report.report;
  reports = c.in_ok-report.ensures;
  text_is = c.in_ok-report_text.ensures.ok ∙ ap (λ text. text ++ text_of c.in_ok-report.report) c.new-text.ensures.items;
  file_is = refl;
}
