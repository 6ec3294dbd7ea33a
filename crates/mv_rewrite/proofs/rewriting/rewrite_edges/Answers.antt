-- The output simulates and is what is written, and the reader's fault is the file's first.
use Rattle.std.proofs.Common.{Some, arith, ap, sym, ◌∙◌}
use Rattle.elf32_read.specs.declared.fault.ImageFault.{ImageFault}
use Rattle.image_layout.specs.Rules.{both}
use Rattle.mv_rewrite.proofs.Assembled.{all_simulate, all_written, read_fault}
use Rattle.mv_rewrite.proofs.rewriting.rewrite_edges.Goals as goal

pub returns-in-Ok-clause-simulates : goal.returns-in-Ok-clause-simulates
returns-in-Ok-clause-simulates g c =
    all_simulate c.args.bytes.now (both c.args.hooks.now c.args.edges.now) c.rewrite_image.result (λ i. omega (arith, c.type_inv.bytes i)) c.rewrite_image.ensures.bytes c.requires c.rewrite_image.ensures.rewritten

pub returns-in-Ok-clause-written : goal.returns-in-Ok-clause-written
returns-in-Ok-clause-written g c =
    all_written c.args.bytes.now (both c.args.hooks.now c.args.edges.now) c.rewrite_image.result (λ i. omega (arith, c.type_inv.bytes i)) c.rewrite_image.ensures.bytes c.requires c.rewrite_image.ensures.rewritten

pub returns-in-Err-Bad-clause-rewritten : goal.returns-in-Err-Bad-clause-rewritten
returns-in-Err-Bad-clause-rewritten g c =
    read_fault c.args.bytes.now c.in-Err-Bad.field-0 c.in-Err-Bad.fault c.in-Err-Bad.ensures c.in-Err-Bad.field-0-is
    ∙ ap (λ (f : ImageFault). Some f) (sym c.in-Err-Bad.fault-is)
