use Rattle.std.proofs.Common.{Some, ◌∙◌, ap, sym, arith}
use Rattle.std.proofs.lemmas.Option.{none-some}
use Rattle.elf32_read.specs.declared.fault.ImageFault.{ImageFault}
use Rattle.pair_check.proofs.Answering.{refused_bad, all_simulate}
use Rattle.pair_check.proofs.checking.check.Goals as goal

pub returns-in-Ok-clause-simulates : goal.returns-in-Ok-clause-simulates
returns-in-Ok-clause-simulates c = all_simulate c.args.original.now c.args.output.now c.check_image.result (λ i. omega (arith, c.type_inv.original i)) (λ i. omega (arith, c.type_inv.output i)) c.requires c.check_image.ensures

pub returns-in-Err-Bad-clause-checked : goal.returns-in-Err-Bad-clause-checked
returns-in-Err-Bad-clause-checked c =
    refused_bad c.args.original.now c.in-Err-Bad.field-0 c.in-Err-Bad.fault c.in-Err-Bad.ensures c.in-Err-Bad.field-0-is ∙ ap (λ (f : ImageFault). Some f) (sym c.in-Err-Bad.fault-is)

pub returns-in-Ok-clause-outputs : goal.returns-in-Ok-clause-outputs
returns-in-Ok-clause-outputs c = λ rules has. c.outputs_pass.ensures c.args.original.now rules c.args.output.now has (λ i. omega (arith, c.type_inv.output i)) c.check_image.result c.check_image.ensures

pub returns-in-Err-Bad-clause-outputs : goal.returns-in-Err-Bad-clause-outputs
returns-in-Err-Bad-clause-outputs c =
    λ rules has. absurd (none-some c.in-Err-Bad.fault (sym has.sound ∙ refused_bad c.args.original.now c.in-Err-Bad.field-0 c.in-Err-Bad.fault c.in-Err-Bad.ensures c.in-Err-Bad.field-0-is))
