use Rattle.std.proofs.Common.{◌≡◌, ◌*ℤ◌, to_z, of_z, w64}
use Rattle.std.proofs.lemmas.Int.{to_z-of_z}
use Rattle.x86_insn.specs.Values.{signed_value}
use Rattle.x86_alu.proofs.Signs.{product_fits}
use Rattle.x86_alu.proofs.products.signed_product.Goals as goal

pub returns : goal.returns
returns c =
    let left : to_z w64 (of_z w64 c.signed.result) ≡ c.signed.result = to_z-of_z w64 c.signed.result (record { sfits = c.signed.type_inv }) in
    let right : to_z w64 (of_z w64 c.signed-2.result) ≡ c.signed-2.result = to_z-of_z w64 c.signed-2.result (record { sfits = c.signed-2.type_inv }) in
    rw (left, right, c.signed.ensures.is, c.signed-2.ensures.is)
    (to_z-of_z w64 (signed_value c.args.w c.args.a *ℤ signed_value c.args.w c.args.b) (product_fits c.args.w c.args.a c.args.b c.requires.a_fits c.requires.b_fits))
