-- How many bytes a piece has.
use Rattle.std.specs.Prelude.{◌≡◌, ℕ, List, length}
use Rattle.std.proofs.Common.{refl}
use Rattle.mv_base.specs.Bytes.{word}
use Rattle.x86_insn.specs.declared.insn.Insn.{Insn}
use Rattle.x86_insn.specs.declared.insn.Insn.TheVariants as insn
use Rattle.x86_insn.specs.Flow.{flow_of}
use Rattle.branch_lengthen.specs.Near.{near_code, near_size, IsNear}

pub near_sized : (i : Insn) (own : List ℕ) (len here to : ℕ) → length own ≡ len → IsNear (flow_of i) → length (near_code (flow_of i) own i here to) ≡ near_size (flow_of i) len
unfolding word
near_sized (insn.Jump rel) own len here to e near = refl
near_sized (insn.Branch cond rel) own len here to e near = refl
near_sized (insn.Loop kind rel) own len here to e near = refl
near_sized (insn.Call rel) own len here to e near = absurd near
near_sized (insn.CallVia src) own len here to e near = absurd near
near_sized (insn.JumpVia src) own len here to e near = absurd near
near_sized (insn.Ret drop) own len here to e near = absurd near
near_sized i own len here to e near = e
