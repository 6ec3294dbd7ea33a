use Rattle.std.proofs.Common.{◌≡◌, ℕ, ◌+◌, ◌-◌, List, [], ◌∷◌, length, take, drop, ap, ◌∙◌, arith}
use Rattle.elf32_read.specs.Runs.{code_of}
use Rattle.step_laws.specs.laws.Fetching.{found_len, found_most}
use Rattle.simulation_laws.specs.laws.Pieced.{site_of_run}
use Rattle.simulation_laws.proofs.piece.own_bytes.Goals as goal

pub overflow_sub-offset : goal.overflow_sub-offset
overflow_sub-offset c = (site_of_run c.args.run.now c.args.site.now c.requires).low

pub slice_bounds-result-end : goal.slice_bounds-result-end
slice_bounds-result-end c =
    let is = site_of_run c.args.run.now c.args.site.now c.requires in
    omega (arith, is.room, is.low, c.from.ensures, ap length c.as_slice.ensures)

pub returns-clause-bytes : goal.returns-clause-bytes
returns-clause-bytes c =
    let is = site_of_run c.args.run.now c.args.site.now c.requires in
    let offset = c.args.site.now.at - c.args.run.now.lo in
    let n : offset + c.from.result - offset ≡ c.args.site.now.len = omega (arith, c.from.ensures) in
    ap (λ (k : ℕ). take k (drop offset c.as_slice.result.now)) n ∙ (ap (λ (l : List ℕ). take c.args.site.now.len (drop offset l)) c.as_slice.ensures ∙ is.own)

pub returns-clause-short : goal.returns-clause-short
returns-clause-short c =
    let is = site_of_run c.args.run.now c.args.site.now c.requires in
    let code = code_of (c.args.run.now ∷ []) in
    omega (arith, ap length (returns-clause-bytes c), found_len code c.args.site.now.at c.args.site.now.insn c.args.site.now.len is.there, found_most code c.args.site.now.at c.args.site.now.insn c.args.site.now.len is.there)
