-- How many bytes a piece with two counters has.
use Rattle.std.proofs.Common.{◌≡◌, ℕ, ◌+◌, ◌≤◌, true, List, [], ◌∷◌, ◌++◌, length, sym, arith}
use Rattle.std.proofs.lemmas.Bool.{true≢false}
use Rattle.std.proofs.lemmas.List.{length-append}
use Rattle.mv_base.specs.Memory.{address_after}
use Rattle.x86_insn.specs.declared.insn.Insn.{Insn}
use Rattle.x86_insn.specs.declared.insn.Insn.TheVariants as insn
use Rattle.x86_insn.specs.Flow.{flow_of}
use Rattle.step_laws.specs.Jumps.{jump_bytes}
use Rattle.step_laws.specs.laws.NearJump.{jump_len}
use Rattle.counter_hooks.specs.Rules.{is_branch}
use Rattle.edge_hooks.specs.Edges.{counter_size, front_bytes, passed_from, jump_from, edge_bytes, edge_size}

pub front_short : (i : Insn) → length (front_bytes i) ≤ 6
front_short (insn.Branch cond rel) = omega arith
front_short (insn.Loop kind rel) = omega arith
front_short i = omega arith

-- of any instruction, by its front
pub edge_long : (i : Insn) (here to : ℕ) (passed taken : List ℕ) → length passed ≡ counter_size → length taken ≡ counter_size → length (edge_bytes i here to passed taken) ≡ passed_from i + 99
edge_long i here to passed taken p t =
    let jump = jump_bytes (address_after here (jump_from i)) to in
    let j = jump_len (address_after here (jump_from i)) to in
    let e = length-append (front_bytes i) (passed ++ (0xEB ∷ 0x33 ∷ (taken ++ (jump ++ [])))) in
    let f = length-append passed (0xEB ∷ 0x33 ∷ (taken ++ (jump ++ []))) in
    let g = length-append taken (jump ++ []) in
    let h = length-append jump [] in
    omega arith

-- of a branch or a loop
pub edge_sized : (i : Insn) (here to : ℕ) (passed taken : List ℕ) → is_branch (flow_of i) ≡ true → length passed ≡ counter_size → length taken ≡ counter_size → length (edge_bytes i here to passed taken) ≡ edge_size (flow_of i)
edge_sized (insn.Branch cond rel) here to passed taken is p t = edge_long (insn.Branch cond rel) here to passed taken p t
edge_sized (insn.Loop kind rel) here to passed taken is p t = edge_long (insn.Loop kind rel) here to passed taken p t
edge_sized i here to passed taken is p t = absurd (true≢false (sym is))
