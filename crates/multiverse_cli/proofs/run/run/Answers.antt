-- Each clause follows from what was tried and what was reported.
use Rattle.multiverse_cli.proofs.Counts.{owed-of}
use Rattle.multiverse_cli.proofs.Due.{due-of}
use Rattle.multiverse_cli.proofs.Meaning.{comes-of, leaves-of, prints-of, delivers-of}
use Rattle.multiverse_cli.proofs.Loads.{loads-of}
use Rattle.multiverse_cli.proofs.Passing.{passes-of}
use Rattle.multiverse_cli.proofs.run.run.Goals as goal

pub returns-clause-comes : goal.returns-clause-comes
returns-clause-comes g c = comes-of _ _ _ _ _ c.attempt-outcome.ensures.attempts c.report.ensures.reports

pub returns-clause-first_due : goal.returns-clause-first_due
returns-clause-first_due g c =
    due-of c.one_log.ensures _ _ _ _ (comes-of _ _ _ _ _ c.attempt-outcome.ensures.attempts c.report.ensures.reports)
    (owed-of _ _ _ _ c.attempt-outcome.ensures.counts c.report.ensures.reports c.report.ensures.counts)

pub returns-clause-owed : goal.returns-clause-owed
returns-clause-owed g c = owed-of _ _ _ _ c.attempt-outcome.ensures.counts c.report.ensures.reports c.report.ensures.counts

pub returns-clause-leaves : goal.returns-clause-leaves
returns-clause-leaves g c = leaves-of _ _ _ _ _ c.attempt-outcome.ensures.attempts c.report.ensures.reports

pub returns-clause-prints : goal.returns-clause-prints
returns-clause-prints g c = prints-of _ _ _ _ _ c.attempt-outcome.ensures.attempts c.report.ensures.reports

pub returns-clause-delivers : goal.returns-clause-delivers
returns-clause-delivers g c = delivers-of _ _ _ _ _ c.attempt-outcome.ensures.attempts c.report.ensures.reports

pub returns-clause-loads : goal.returns-clause-loads
returns-clause-loads g c = loads-of c.operands_load.ensures

pub returns-clause-passes : goal.returns-clause-passes
returns-clause-passes g c =
    passes-of c.outputs_pass.ensures _ _ _ _ (comes-of _ _ _ _ _ c.attempt-outcome.ensures.attempts c.report.ensures.reports)
