use Rattle.std.proofs.Common.{sym, ap, ◌∙◌, Some}
use Rattle.mini_asm.specs.Labels.{place_of}
use Rattle.mini_asm.specs.Spots.{address_in, placed_form, with_target}
use Rattle.mini_asm.proofs.judging.placed_form.Goals as goal

pub returns-in-Aimed : goal.returns-in-Aimed
returns-in-Aimed c =
    let addresses = address_in (place_of c.args.labels.now) c.args.spots.now in
    ap Some (c.with_target.ensures ∙ ap (λ to. with_target to c.in-Aimed.insn) (c.address.ensures ∙ ap addresses c.as_slice.ensures)) ∙ ap (placed_form addresses) (sym c.in-Aimed.is)
