use Rattle.std.proofs.Common.{◌≡◌, ◌+◌, ◌-◌, ◌++◌, sym, ap, ◌∙◌, arith}
use Rattle.elf32_read.specs.Runs.{code_of}
use Rattle.mv_base.specs.Memory.{exec_bytes}
use Rattle.multiverse_cli.specs.Listing.{hex_pairs}
use Rattle.multiverse_cli.proofs.Lines.{all-bytes, next-byte, no-byte}
use Rattle.multiverse_cli.proofs.listing.put_bytes.Goals as goal

pub returns-in-None : goal.returns-in-None
returns-in-None c =
    let code = code_of c.args.runs.now in
    let k = c.loop-offset.offset in
    let at : c.from.result + c.from-in-loop-offset.result ≡ c.args.at + k = omega (arith, c.from.ensures, c.from-in-loop-offset.ensures) in
    no-byte code (c.args.at + k) (c.args.count - k) c.loop-offset.to.items _ (ap code (sym at) ∙ sym c.byte_at.ensures ∙ c.in-None.is) c.loop-offset.invariant

pub loop-offset-preserved : goal.loop-offset-preserved
loop-offset-preserved c =
    let code = code_of c.args.runs.now in
    let k = c.loop-offset.offset in
    let at : c.from.result + c.from-in-loop-offset.result ≡ c.args.at + k = omega (arith, c.from.ensures, c.from-in-loop-offset.ensures) in
    let left = c.args.count - (k + 1) in
    let count : c.args.count - k ≡ left + 1 = omega (arith, c.loop-offset-test.true) in
    let next : c.args.at + k + 1 ≡ c.args.at + (k + 1) = omega arith in
    ap (λ a. c.put_pair.new.to.items ++ hex_pairs (exec_bytes code a left)) (sym next)
    ∙ next-byte code (c.args.at + k) (c.args.count - k) left c.in-Some.byte c.loop-offset.to.items c.put_pair.new.to.items _
    (ap code (sym at) ∙ sym c.byte_at.ensures ∙ c.in-Some.is) count c.in_ok-put_pair-in-Some.ensures c.loop-offset.invariant

pub returns : goal.returns
returns c =
    let code = code_of c.args.runs.now in
    let k = c.loop-offset.offset in
    let none : c.args.count - k ≡ 0 = omega (arith, c.loop-offset-test.false) in
    all-bytes code (c.args.at + k) (c.args.count - k) c.loop-offset.to.items _ none c.loop-offset.invariant
