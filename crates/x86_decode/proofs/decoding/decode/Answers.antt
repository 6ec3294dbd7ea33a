use Rattle.std.proofs.Common.{ℕ, ◌+◌, take, sym, subst, ap, ◌∙◌, arith, length-take}
use Rattle.x86_insn.specs.declared.insn.Insn.{Insn}
use Rattle.x86_insn.specs.Meaning.{meaning}
use Rattle.x86_insn.specs.Scanning.{Found, Nothing, later}
use Rattle.x86_decode.specs.Decoding.{IsDecoded}
use Rattle.x86_decode.proofs.Whole.{front_short, scan_without, behind_prefixes, decided_is, found_is, unknown_is}
use Rattle.x86_decode.proofs.decoding.decode.Goals as goal

pub split_at-requires : goal.split_at-requires
split_at-requires c = omega (arith, c.prefix_count-count.ensures, front_short (take c.min.result c.args.bytes.now))

pub returns-then-not-may_stand_together : goal.returns-then-not-may_stand_together
returns-then-not-may_stand_together c =
    unknown_is c.args.bytes.now c.min.result Nothing c.min.ensures (scan_without (take c.min.result c.args.bytes.now) c.prefix_count-count.result _ _ c.prefix_count-count.ensures c.split_at.ensures.front c.may_stand_together.ensures c.if-not-may_stand_together.true) tt

pub returns-in-By : goal.returns-in-By
returns-in-By c =
    let seen = take c.min.result c.args.bytes.now in
    let whole = behind_prefixes seen c.prefix_count-count.result _ _ _ _ c.prefix_count-count.ensures c.split_at.ensures.front c.split_at.ensures.back c.may_stand_together.ensures c.if-not-may_stand_together.false c.marks_of-marks.ensures in
    let n = c.prefix_count-count.result + c.in-By.len in
    let insn = c.meaning.ensures ∙ ap (meaning c.in-By.form.now.kind) c.operands_of.ensures in
    found_is c.args.bytes.now c.min.result _ _ (λ k. omega (arith, c.type_inv.bytes k)) c.min.ensures
    (ap (λ (i : Insn). Found i n) insn ∙ sym (ap (later c.prefix_count-count.result) c.in-By.ensures) ∙ whole)
    (omega (arith, c.if-len-count.true, c.min.ensures, c.prefix_count-count.ensures, front_short seen, length-take {A = ℕ} c.min.result c.args.bytes.now))

pub returns-in-Nowhere : goal.returns-in-Nowhere
returns-in-Nowhere c =
    let whole = behind_prefixes (take c.min.result c.args.bytes.now) c.prefix_count-count.result _ _ _ _ c.prefix_count-count.ensures c.split_at.ensures.front c.split_at.ensures.back c.may_stand_together.ensures c.if-not-may_stand_together.false c.marks_of-marks.ensures in
    unknown_is c.args.bytes.now c.min.result Nothing c.min.ensures (sym (ap (later c.prefix_count-count.result) c.in-Nowhere.ensures) ∙ whole) tt

pub returns-in_default : goal.returns-in_default
returns-in_default c =
    let whole = behind_prefixes (take c.min.result c.args.bytes.now) c.prefix_count-count.result _ _ _ _ c.prefix_count-count.ensures c.split_at.ensures.front c.split_at.ensures.back c.may_stand_together.ensures c.if-not-may_stand_together.false c.marks_of-marks.ensures in
    subst (IsDecoded c.args.bytes.now) (sym c.decode_openly.ensures) (decided_is c.args.bytes.now c.min.result _ (λ k. omega (arith, c.type_inv.bytes k)) c.min.ensures whole)
