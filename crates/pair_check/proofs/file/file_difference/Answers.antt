use Rattle.std.proofs.Common.{◌≡◌, ◌+◌, ◌∙◌, false, ◌==◌, length, sym, ap, arith}
use Rattle.std.proofs.lemmas.Bool.{ne_eqb}
use Rattle.elf32_read.specs.RunCount.{header_count-admitted}
use Rattle.elf32_read.specs.Whole.{length-headers}
use Rattle.elf32_write.specs.File.{added_len}
use Rattle.simulation_laws.specs.laws.Fronts.{place_most}
use Rattle.pair_check.proofs.Framed.{exact, version_two, short_file, ends_low}
use Rattle.pair_check.proofs.file.file_difference.Goals as goal

pub write_image-requires-clause-headers : goal.write_image-requires-clause-headers
write_image-requires-clause-headers c = omega (arith, ap length c.requires.image.headers_are, length-headers c.args.original.now, header_count-admitted c.args.original.now c.requires.admitted)

pub write_image-requires-clause-runs : goal.write_image-requires-clause-runs
write_image-requires-clause-runs c = omega (arith, ap (λ p. length p.runs) c.in_ok-plan.ensures, (exact c.args.output.now c.args.frame.now c.requires.framed).few_runs)

pub write_image-requires-clause-block : goal.write_image-requires-clause-block
write_image-requires-clause-block c =
    let f = c.args.frame.now in
    let is = exact c.args.output.now f c.requires.framed in
    let new : (f.version == 1) ≡ false = ne_eqb f.version 1 (λ e. c.if-from-eq-OLD_VERSION.false (c.from.ensures ∙ (c.version.ensures.value ∙ e))) in
    omega (arith, ends_low c.args.image.now.entry c.args.output.now f is (version_two f is.version new).0, ap (λ p. p.base + added_len p) c.in_ok-plan.ensures)

pub overflow_cast-result : goal.overflow_cast-result
overflow_cast-result c =
    omega (arith, short_file c.args.output.now c.args.frame.now (exact c.args.output.now c.args.frame.now c.requires.framed), place_most 0 c.deref.result.now c.args.output.now c.in-Some.found (sym c.first_difference.ensures ∙ c.in-Some.is))
