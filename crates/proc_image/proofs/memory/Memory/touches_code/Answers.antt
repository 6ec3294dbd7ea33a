use Rattle.std.proofs.Common.{◌≡◌, true, false, ◌+◌, ◌-◌, sym, ap, ◌∙◌, arith}
use Rattle.mv_base.specs.Memory.{is_executable}
use Rattle.proc_image.specs.Counting.{some_below}
use Rattle.proc_image.specs.Paged.{cells}
use Rattle.proc_image.proofs.Counts.{some-zero}
use Rattle.proc_image.proofs.Effecting.{some-first, some-join, some-longer}
use Rattle.proc_image.proofs.memory.Memory.touches_code.Goals as goal

pub loop-at-init : goal.loop-at-init
loop-at-init c =
    let none : c.args.lo - c.args.lo ≡ 0 = omega arith in
    record {
      from = omega arith;
      to = omega arith;
      none = ap (some_below (λ j. is_executable (cells c.args.self.now) (c.args.lo + j))) none ∙ some-zero (λ j. is_executable (cells c.args.self.now) (c.args.lo + j));
    }

pub returns-then-has_code : goal.returns-then-has_code
returns-then-has_code c =
    let some = some-join (is_executable (cells c.args.self.now)) c.args.lo c.loop-at.at (c.min-next.result - c.loop-at.at) true c.loop-at.invariant.from c.loop-at.invariant.none c.if-has_code.ensures in
    sym (sym (some-first (is_executable (cells c.args.self.now)) c.args.lo c.args.len (omega arith))
    ∙ some-longer (λ j. is_executable (cells c.args.self.now) (c.args.lo + j)) (c.loop-at.at + (c.min-next.result - c.loop-at.at) - c.args.lo) c.args.len (omega arith) some)

pub loop-at-preserved : goal.loop-at-preserved
loop-at-preserved c =
    let on : c.min-next.result - c.args.lo ≡ c.loop-at.at + (c.min-next.result - c.loop-at.at) - c.args.lo = omega arith in
    record {
      from = omega arith;
      to = omega arith;
      none =
          ap (some_below (λ j. is_executable (cells c.args.self.now) (c.args.lo + j))) on
          ∙ some-join (is_executable (cells c.args.self.now)) c.args.lo c.loop-at.at (c.min-next.result - c.loop-at.at) false c.loop-at.invariant.from c.loop-at.invariant.none c.if-has_code.ensures;
    }

pub returns : goal.returns
returns c =
    let all : c.args.len ≡ c.loop-at.at - c.args.lo = omega arith in
    sym (sym (some-first (is_executable (cells c.args.self.now)) c.args.lo c.args.len (omega arith))
    ∙ ap (some_below (λ j. is_executable (cells c.args.self.now) (c.args.lo + j))) all ∙ c.loop-at.invariant.none)
