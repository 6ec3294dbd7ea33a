use Rattle.std.proofs.Common.{◌≡◌, ◌+◌, ◌-◌, ◌∙◌, sym, ap, arith}
use Rattle.std.proofs.lemmas.List.{drop_all}
use Rattle.elf32_read.specs.Runs.{code_of}
use Rattle.superset.specs.Sites.{site_at}
use Rattle.superset.specs.RunBytes.{apart_ends}
use Rattle.pair_check.proofs.Walks.{run_code, site_alike, no_site}
use Rattle.pair_check.proofs.counted.site_of_runs.Goals as goal

pub site_at-requires-clause-ends : goal.site_at-requires-clause-ends
site_at-requires-clause-ends c = apart_ends 0 c.args.runs.now c.requires c.loop-run.run-index c.run-item.result (omega (arith, c.loop-run-test.true)) c.run-item.is

pub returns-then-address-run-2 : goal.returns-then-address-run-2
returns-then-address-run-2 c =
    let r = c.run-item.result in
    let at : r.lo + (c.args.address - r.lo) ≡ c.args.address = omega (arith, c.if-address-run.true) in
    let same = run_code 0 c.args.runs.now c.loop-run.run-index r c.requires (omega (arith, c.loop-run-test.true)) c.run-item.is in
    c.site_at.ensures ∙ (ap (site_at _) at ∙ sym (site_alike (code_of c.args.runs.now) r c.args.address same.1 (omega (arith, c.if-address-run.true)) (omega (arith, c.if-address-run.true, c.if-address-run-2.true, c.len.ensures))))

pub returns : goal.returns
returns c = sym (no_site (code_of c.args.runs.now) c.args.address (c.loop-run.invariant ∙ ap (λ rs. code_of rs c.args.address) (drop_all c.loop-run.run-index c.args.runs.now (omega (arith, c.loop-run-test.false)))))
