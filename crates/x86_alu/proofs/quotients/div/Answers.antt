use Rattle.std.proofs.Common.{◌≡◌, to_z, of_z, w64, ◌∙◌}
use Rattle.std.proofs.lemmas.Int.{to_z-of_z}
use Rattle.std.proofs.lemmas.Bool.{ne_eqb}
use Rattle.x86_alu.proofs.Signs.{signed_answer}
use Rattle.x86_alu.proofs.quotients.div.Goals as goal

pub returns-then-signed-clause-is : goal.returns-then-signed-clause-is
returns-then-signed-clause-is c =
    let n : to_z w64 (of_z w64 c.signed_dividend.result) ≡ c.signed_dividend.result = to_z-of_z w64 c.signed_dividend.result (record { sfits = c.signed_dividend.type_inv }) in
    let d : to_z w64 (of_z w64 c.signed.result) ≡ c.signed.result = to_z-of_z w64 c.signed.result (record { sfits = c.signed.type_inv }) in
    (rw (n, d) at c.divide_signed.ensures.is) ∙ signed_answer c.args.signed c.args.w c.args.high c.args.low c.args.by c.signed_dividend.result c.signed.result c.args.f c.if-signed.true (ne_eqb c.args.by 0 c.if-by-eq0.false) c.signed_dividend.ensures c.signed.ensures.is
