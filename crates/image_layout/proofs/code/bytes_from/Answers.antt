use Rattle.std.proofs.Common.{◌≡◌, ℕ, length, take, min, ap, sym, ◌∙◌, arith}
use Rattle.std.proofs.lemmas.List.{take_min, drop_all}
use Rattle.image_layout.proofs.RunTails.{skip_run, run_has, none_left, apart_rest}
use Rattle.image_layout.proofs.code.bytes_from.Goals as goal

pub returns-in-Some : goal.returns-in-Some
returns-in-Some c =
    let found = c.in-Some.ensures.found in
    let bytes = c.in-Some.rest.now in
    let n : c.min.result ≡ min c.args.len (length bytes) = c.min.ensures in
    ap (λ (k : ℕ). take k bytes) n
    ∙ take_min c.args.len bytes
    ∙ ap (take c.args.len) found.2
    ∙ run_has c.args.runs.now c.loop-run.run-index c.run-item.result c.args.at c.args.len (omega arith) c.run-item.is c.loop-run.invariant.apart found.0 found.1
    ∙ sym c.loop-run.invariant.same

pub loop-run-preserved : goal.loop-run-preserved
loop-run-preserved c = record {
  same = c.loop-run.invariant.same ∙ skip_run c.args.runs.now c.loop-run.run-index c.run-item.result c.args.at c.args.len (omega arith) c.run-item.is c.loop-run.invariant.apart c.in_default.ensures.missing;
  apart = apart_rest c.args.runs.now c.loop-run.run-index c.run-item.result (omega arith) c.run-item.is c.loop-run.invariant.apart;
}

pub returns : goal.returns
returns c =
    none_left c.args.runs.now c.loop-run.run-index c.args.at c.args.len (omega arith) (drop_all c.loop-run.run-index c.args.runs.now (omega arith)) ∙ sym c.loop-run.invariant.same
