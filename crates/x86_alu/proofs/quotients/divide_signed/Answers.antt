use Rattle.std.proofs.Common.{◌≡◌, true, pos, neg_ℤ, to_z, of_z, w64, rules, arith, FitsSigned}
use Rattle.std.specs.Prelude.{int_div, int_le, int_lt}
use Rattle.std.proofs.lemmas.Int.{ints, to_z-of_z, rem_is}
use Rattle.x86_insn.specs.Values.{half}
use Rattle.x86_alu.proofs.Signs.{quotient_fits}
use Rattle.x86_alu.proofs.quotients.divide_signed.Goals as goal

pub returns-clause-is : goal.returns-clause-is
returns-clause-is c =
    let n : to_z w64 (of_z w64 c.args.n) ≡ c.args.n = to_z-of_z w64 c.args.n c.ranges.n in
    let d : to_z w64 (of_z w64 c.args.by) ≡ c.args.by = to_z-of_z w64 c.args.by c.ranges.by in
    let q_fits : FitsSigned w64 c.in_ok-quotient.quotient = search rules in
    let q : to_z w64 (of_z w64 c.in_ok-quotient.quotient) ≡ c.in_ok-quotient.quotient = to_z-of_z w64 c.in_ok-quotient.quotient q_fits in
    let given = rw (n, d) at c.checked_div.ensures in
    let is : c.in_ok-quotient.quotient ≡ int_div c.args.n c.args.by = grind (arith, given, c.in_ok-quotient.was, c.in_ok-quotient.is) in
    let r = rem_is w64 c.args.n c.args.by c.ranges.n c.ranges.by in
    let low : int_le (neg_ℤ (pos (half c.args.w))) c.in_ok-quotient.quotient ≡ true = grind (arith, ints, c.if-quotient-limit.false, c.half.ensures, c.from-limit.ensures) in
    let high : int_lt c.in_ok-quotient.quotient (pos (half c.args.w)) ≡ true = grind (arith, ints, c.if-quotient-limit-2.false, c.half.ensures, c.from-limit.ensures) in
    rw (c.wrapped.ensures.is, c.wrapped-2.ensures.is, c.cleared.ensures, q, r) (quotient_fits c.args.w c.args.n c.args.by c.in_ok-quotient.quotient c.args.f is low high)
