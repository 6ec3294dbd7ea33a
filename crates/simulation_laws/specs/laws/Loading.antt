-- The operand of a site's jump or call is loaded by few bytes, and a piece has room in a slot.
use Rattle.std.proofs.Common.{◌≡◌, ℕ, zero, suc, ◌≤◌, inl, inr, List, length, Some, arith}
use Rattle.x86_insn.specs.declared.insn.Insn.{Insn}
use Rattle.x86_insn.specs.declared.insn.Insn.TheVariants as insn
use Rattle.x86_insn.specs.declared.insn.Rm.{Rm}
use Rattle.x86_insn.specs.Spelling.{spelled}
use Rattle.x86_insn.specs.Laws.{spelled_spells}
use Rattle.step_laws.specs.laws.NearJump.{jump_len}
use Rattle.branch_lengthen.specs.Near.{near_bytes}
use Rattle.branch_lengthen.specs.laws.Branches.{branch_len, count_len}
use Rattle.call_rewrite.specs.Far.{LoadsOperand, far_bytes, far_size, load_bytes, load_of}
use Rattle.call_rewrite.specs.laws.Lengths.{far_sized, load_short, loads_operand}

pub jump_loads : (s : List ℕ) (src : Rm) → spelled s ≡ Some (insn.JumpVia src) → LoadsOperand src (load_bytes src)
jump_loads s src e = loads_operand s src (inl (spelled_spells s _ e))

pub call_loads : (s : List ℕ) (src : Rm) → spelled s ≡ Some (insn.CallVia src) → LoadsOperand src (load_bytes src)
call_loads s src e = loads_operand s src (inr (spelled_spells s _ e))

pub few_load : (s : List ℕ) (i : Insn) → spelled s ≡ Some i → length (load_of i) ≤ 8
few_load s i e = load_short s i (spelled_spells s i e)

-- ---- lengths

pub near_most : (i : Insn) (here to : ℕ) → length (near_bytes i here to) ≤ 9
near_most (insn.Jump rel) here to = omega (arith, jump_len here to)
near_most (insn.Branch cond rel) here to = omega (arith, branch_len cond here to)
near_most (insn.Loop kind rel) here to = omega (arith, count_len kind here to)
near_most _ here to = omega arith

size_most : (load : List ℕ) (i : Insn) → length load ≤ 8 → far_size load i ≤ 33
size_most load (insn.Call rel) le = omega arith
size_most load (insn.CallVia src) le = omega (arith, le)
size_most load (insn.JumpVia src) le = omega (arith, le)
size_most load (insn.Ret zero) le = omega arith
size_most load (insn.Ret (suc n)) le = omega arith
size_most load _ le = omega arith

pub far_most : (load : List ℕ) (i : Insn) (next here goal p : ℕ) → length load ≤ 8 → length (far_bytes load i next here goal p) ≤ 33
far_most load i next here goal p le = omega (arith, far_sized load i next here goal p, size_most load i le)
