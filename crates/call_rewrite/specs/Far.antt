-- The pieces of calls, returns and jumps through an operand, by the address at which they stand; one line an instruction.
-- Intel SDM, volume 2; that these bytes stand for an instruction is this project's own. Sums of addresses are taken modulo
-- 2^32. The private area lies from p on: its first word keeps EAX, its second has the target for the stub.
use Rattle.std.specs.Prelude.{◌≡◌, ℕ, zero, suc, ◌+◌, List, [], ◌∷◌, ◌++◌, length, Some, unwrap_or}
use Rattle.std.specs.List.{concat}
use Rattle.mv_base.specs.Bytes.{word}
use Rattle.mv_base.specs.Memory.{address_after}
use Rattle.x86_insn.specs.declared.insn.Insn.{Insn}
use Rattle.x86_insn.specs.declared.insn.Insn.TheVariants as insn
use Rattle.x86_insn.specs.declared.insn.Reg.TheVariants.{Eax}
use Rattle.x86_insn.specs.declared.insn.Rm.{Rm}
use Rattle.x86_insn.specs.declared.insn.Rm.TheVariants as rm
use Rattle.x86_insn.specs.declared.insn.Width.TheVariants.{D}
use Rattle.x86_insn.specs.Meaning.{source_of}
use Rattle.x86_insn.specs.Spelling.{spelled}
use Rattle.x86_encode.specs.Least.{least}
pub use Rattle.step_laws.specs.Jumps.{jump_bytes}

-- mov [at],eax; mov eax,[at]; push n; pop dword [at]; lea esp,[esp+n]
abbrev pub keep_eax : ℕ → List ℕ
keep_eax at = 0xA3 ∷ word at

abbrev pub take_eax : ℕ → List ℕ
take_eax at = 0xA1 ∷ word at

abbrev pub push_bytes : ℕ → List ℕ
push_bytes n = 0x68 ∷ word n

abbrev pub pop_bytes : ℕ → List ℕ
pop_bytes at = 0x8F ∷ 0x05 ∷ word at

abbrev pub drop_bytes : ℕ → List ℕ
drop_bytes n = 0x8D ∷ 0xA4 ∷ 0x24 ∷ word n

-- a call: the old address after it is pushed, and a jump goes to the new target
abbrev pub call_parts : ℕ → ℕ → ℕ → List (List ℕ)
call_parts next here to = push_bytes next ∷ jump_bytes (address_after here 5) to ∷ []

-- the target that an operand names goes to the private area; load is mov eax,operand
abbrev pub via_parts : List ℕ → ℕ → List (List ℕ)
via_parts load p = keep_eax p ∷ load ∷ keep_eax (p + 4) ∷ take_eax p ∷ []

-- how many bytes that is
abbrev pub via_len : List ℕ → ℕ
via_len load = 15 + length load

-- a jump through an operand: the stub goes to the target's new address
abbrev pub jump_via_parts : List ℕ → ℕ → ℕ → ℕ → List (List ℕ)
jump_via_parts load here stub p = via_parts load p ++ jump_bytes (address_after here (via_len load)) stub ∷ []

-- a call through an operand reads its target before it pushes
abbrev pub call_via_parts : List ℕ → ℕ → ℕ → ℕ → ℕ → List (List ℕ)
call_via_parts load next here stub p = via_parts load p ++ call_parts next (address_after here (via_len load)) stub

-- a return takes its target from the stack; lea changes no flag
abbrev pub return_parts : ℕ → ℕ → ℕ → ℕ → List (List ℕ)
return_parts zero here stub p = pop_bytes (p + 4) ∷ jump_bytes (address_after here 6) stub ∷ []
return_parts (suc n) here stub p = pop_bytes (p + 4) ∷ drop_bytes (suc n) ∷ jump_bytes (address_after here 13) stub ∷ []

-- how many steps a return's piece takes
abbrev pub return_steps : ℕ → ℕ
return_steps zero = 2
return_steps (suc n) = 3

-- bytes that load EAX from an operand
pub record LoadsOperand (src : Rm) (load : List ℕ) : Type 0 where
  pub spells : spelled load ≡ Some (insn.Mov D (rm.R Eax) (source_of src))

-- the piece of a call, a return or a jump through an operand, where `goal` is the new target of a direct call, or the stub;
-- no other instruction has one of these
abbrev pub far_bytes : List ℕ → Insn → ℕ → ℕ → ℕ → ℕ → List ℕ
far_bytes load (insn.Call rel) next here goal p = concat (call_parts next here goal)
far_bytes load (insn.CallVia src) next here goal p = concat (call_via_parts load next here goal p)
far_bytes load (insn.JumpVia src) next here goal p = concat (jump_via_parts load here goal p)
far_bytes load (insn.Ret drop) next here goal p = concat (return_parts drop here goal p)
far_bytes load i next here goal p = []

-- how many bytes it has
abbrev pub far_size : List ℕ → Insn → ℕ
far_size load (insn.Call rel) = 10
far_size load (insn.CallVia src) = 25 + length load
far_size load (insn.JumpVia src) = 20 + length load
far_size load (insn.Ret zero) = 11
far_size load (insn.Ret (suc n)) = 18
far_size load i = 0

-- the least bytes that load EAX from an operand, where there are any
abbrev pub load_bytes : Rm → List ℕ
load_bytes src = unwrap_or (least (insn.Mov D (rm.R Eax) (source_of src))) []

-- those of the operand of a jump or a call
abbrev pub load_of : Insn → List ℕ
load_of (insn.CallVia src) = load_bytes src
load_of (insn.JumpVia src) = load_bytes src
load_of i = []
