-- Which sites a rule picks, and what it means that a question answers by a rule. This project's own.
use Rattle.std.specs.Prelude.{ℕ, ◌^◌, ◌<◌, ◌==◌, Bool, true, false, List, length, Option, Some, None, slice_index}
use Rattle.std.specs.List.{list_any}
use Rattle.x86_insn.specs.declared.insn.Count.{Count}
use Rattle.x86_insn.specs.declared.insn.Count.TheVariants as count
use Rattle.x86_insn.specs.declared.insn.Flow.{Flow}
use Rattle.x86_insn.specs.declared.insn.Flow.TheVariants as flow
use Rattle.x86_insn.specs.declared.insn.Insn.{Insn}
use Rattle.x86_insn.specs.declared.insn.Insn.TheVariants as insn
use Rattle.x86_insn.specs.declared.insn.Mem.{Mem}
use Rattle.x86_insn.specs.declared.insn.Reg.{Reg}
use Rattle.x86_insn.specs.declared.insn.Rm.{Rm}
use Rattle.x86_insn.specs.declared.insn.Rm.TheVariants as rm
use Rattle.x86_insn.specs.declared.insn.Src.{Src}
use Rattle.x86_insn.specs.declared.insn.Src.TheVariants as src
use Rattle.x86_insn.specs.Flow.{flow_of}
use Rattle.superset.specs.declared.site.Site.{Site}
use Rattle.counter_hooks.specs.declared.rules.Rule.{Rule}
use Rattle.counter_hooks.specs.declared.rules.Rule.TheVariants as rule

-- ---- rules

-- the addresses of a list strictly ascend
abbrev pub Ascend : List ℕ → Type 0
Ascend xs = (i j : ℕ) → i < j → j < length xs → slice_index xs i < slice_index xs j

abbrev pub IsAscending : Rule → Type 0
IsAscending (rule.At xs) = Ascend xs
IsAscending rule.None = Unit {0}
IsAscending rule.All = Unit {0}
IsAscending rule.Calls = Unit {0}
IsAscending rule.Returns = Unit {0}
IsAscending rule.Branches = Unit {0}
IsAscending rule.System = Unit {0}

-- the number of a rule: this project's own
abbrev pub number_of : Rule → ℕ
number_of rule.None = 0
number_of rule.All = 1
number_of rule.Calls = 2
number_of rule.Returns = 3
number_of rule.Branches = 4
number_of rule.System = 5
number_of (rule.At _) = 6

-- direct calls, and calls through an operand
abbrev pub is_call : Flow → Bool
is_call flow.Call = true
is_call flow.CallVia = true
is_call _ = false

abbrev pub is_return : Flow → Bool
is_return flow.Return = true
is_return _ = false

-- branches on a condition, and LOOP and its kin and JECXZ
abbrev pub is_branch : Flow → Bool
is_branch flow.Branch = true
is_branch flow.Count = true
is_branch _ = false

abbrev pub is_system : Flow → Bool
is_system flow.System = true
is_system _ = false

-- whether a rule picks a site
abbrev pub picked : Rule → Site → Bool
picked rule.None s = false
picked rule.All s = true
picked rule.Calls s = is_call (flow_of s.insn)
picked rule.Returns s = is_return (flow_of s.insn)
picked rule.Branches s = is_branch (flow_of s.insn)
picked rule.System s = is_system (flow_of s.insn)
picked (rule.At xs) s = list_any (λ a. a == s.at) xs

-- ---- sites whose numbers are values of their fields' types

abbrev pub IsIndex : Option (Reg × ℕ) → Type 0
IsIndex None = Unit {0}
IsIndex (Some i) = i.1 < 2 ^ 8

abbrev pub IsMem : Mem → Type 0
IsMem m = (m.disp < 2 ^ 32) × IsIndex m.index

abbrev pub IsRm : Rm → Type 0
IsRm (rm.R r) = Unit {0}
IsRm (rm.M m) = IsMem m

abbrev pub IsSrc : Src → Type 0
IsSrc (src.R r) = Unit {0}
IsSrc (src.M m) = IsMem m
IsSrc (src.Imm n) = n < 2 ^ 32

abbrev pub IsCount : Count → Type 0
IsCount (count.Imm n) = n < 2 ^ 8
IsCount count.Cl = Unit {0}

abbrev pub IsFactor : Option ℕ → Type 0
IsFactor None = Unit {0}
IsFactor (Some n) = n < 2 ^ 32

abbrev pub IsInsn : Insn → Type 0
IsInsn (insn.Alu op w lock dst source) = IsRm dst × IsSrc source
IsInsn (insn.Test w dst source) = IsRm dst × IsSrc source
IsInsn (insn.Mov w dst source) = IsRm dst × IsSrc source
IsInsn (insn.Xchg w lock dst r) = IsRm dst
IsInsn (insn.Lea w dst m) = IsMem m
IsInsn (insn.Movx signed from to dst source) = IsRm source
IsInsn (insn.Push source) = IsSrc source
IsInsn (insn.Pop dst) = IsRm dst
IsInsn (insn.Bump up w lock dst) = IsRm dst
IsInsn (insn.Unary op w lock dst) = IsRm dst
IsInsn (insn.Mul signed w source) = IsRm source
IsInsn (insn.Div signed w source) = IsRm source
IsInsn (insn.Imul w dst source imm) = IsRm source × IsFactor imm
IsInsn (insn.Shift op w dst by) = IsRm dst × IsCount by
IsInsn (insn.Double left dst r by) = IsRm dst × IsCount by
IsInsn (insn.Bit op w lock dst index) = IsRm dst × IsSrc index
IsInsn (insn.Scan up w dst source) = IsRm source
IsInsn (insn.Cmpxchg w lock dst r) = IsRm dst
IsInsn (insn.Xadd w lock dst r) = IsRm dst
IsInsn (insn.Set cond dst) = IsRm dst
IsInsn (insn.Cmov cond w dst source) = IsRm source
IsInsn (insn.Jump rel) = rel < 2 ^ 32
IsInsn (insn.Branch cond rel) = rel < 2 ^ 32
IsInsn (insn.Loop kind rel) = rel < 2 ^ 32
IsInsn (insn.Call rel) = rel < 2 ^ 32
IsInsn (insn.JumpVia source) = IsRm source
IsInsn (insn.CallVia source) = IsRm source
IsInsn (insn.Ret drop) = drop < 2 ^ 16
IsInsn (insn.ToGs source) = IsRm source
IsInsn (insn.FromGs w dst) = IsRm dst
IsInsn i = Unit {0}

abbrev pub IsSite : Site → Type 0
IsSite s = (s.at < 2 ^ 32) × (s.len < 2 ^ 8) × IsInsn s.insn

-- ---- questions

-- at each site this answer comes and no other
abbrev pub Tells : (Site → Bool → Type 0) → (Site → Bool) → Type 0
Tells answers test = (s : Site) → IsSite s → answers s (test s)
