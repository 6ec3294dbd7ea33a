use Rattle.std.proofs.Common.{◌≡◌, ◌∙◌, ℕ, List, ◌++◌, length, take, Option, ap, sym, arith}
use Rattle.mv_base.specs.Memory.{Memory, exec_byte, exec_bytes}
use Rattle.x86_insn.specs.declared.insn.Insn.{Insn}
use Rattle.x86_insn.specs.Spelling.{decoded}
use Rattle.x86_insn.specs.Step.{found, fetch}
use Rattle.proc_image.specs.Paged.{cells}
use Rattle.x86_machine.proofs.Fetched.{fetch-absent, fetch-decoded, front, front-decoded}
use Rattle.x86_machine.proofs.fetching.fetch.Goals as goal

pub returns-then-len-eq0 : goal.returns-then-len-eq0
returns-then-len-eq0 c = fetch-absent (exec_byte (cells c.args.memory.now)) c.args.at (sym c.exec_bytes-len.ensures.number ∙ c.if-len-eq0.true)

-- the copied bytes decode so
copied : (m : Memory) (at n : ℕ) (to rest : List ℕ) (d : Option (Insn × ℕ)) → to ≡ exec_bytes (exec_byte m) at 15 ++ rest → n ≡ length (exec_bytes (exec_byte m) at 15) → (n ≡ 0 → ⊥) → decoded (take n to) ≡ d → fetch m at ≡ found d
copied m at n to rest d is long some reads =
    fetch-decoded (exec_byte m) at d (omega (arith, some, long)) (ap decoded (sym (front (exec_bytes (exec_byte m) at 15) to rest n is long)) ∙ reads)

pub returns-in-Insn : goal.returns-in-Insn
returns-in-Insn c = copied _ _ _ _ _ _ c.exec_bytes-len.ensures.copied c.exec_bytes-len.ensures.number c.if-len-eq0.false c.in-Insn.ensures.0

pub returns-in-Short : goal.returns-in-Short
returns-in-Short c = copied _ _ _ _ _ _ c.exec_bytes-len.ensures.copied c.exec_bytes-len.ensures.number c.if-len-eq0.false c.in-Short.ensures.0

pub returns-in-Unknown : goal.returns-in-Unknown
returns-in-Unknown c = copied _ _ _ _ _ _ c.exec_bytes-len.ensures.copied c.exec_bytes-len.ensures.number c.if-len-eq0.false c.in-Unknown.ensures.0

pub new-requires-clause-spells : goal.new-requires-clause-spells
new-requires-clause-spells c = front-decoded _ _ _ _ c.in-Insn.ensures.0
