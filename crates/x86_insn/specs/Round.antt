-- What each instruction asks of memory, and what it does to registers and flags: one line an instruction. Intel SDM,
-- volume 2.
use Rattle.std.specs.Prelude.{ℕ, Bool, true, false, ◌||◌, List, [], ◌∷◌}
use Rattle.mv_base.specs.Effects.{Descs}
use Rattle.x86_insn.specs.declared.insn.Insn.{Insn}
use Rattle.x86_insn.specs.declared.insn.Insn.TheVariants as insn
use Rattle.x86_insn.specs.declared.insn.Rm.{Rm}
use Rattle.x86_insn.specs.declared.insn.Rm.TheVariants as rm
use Rattle.x86_insn.specs.declared.insn.Src.{Src}
use Rattle.x86_insn.specs.declared.insn.Src.TheVariants as src
use Rattle.x86_insn.specs.Operands.{is_beyond}
use Rattle.x86_insn.specs.State.{Core, Trap, Outside, Breakpoint, Invalid, Protection}
pub use Rattle.x86_insn.specs.Ask.{Ask, Reads, Halts, Ends}
use Rattle.x86_insn.specs.Ask.{ends}
use Rattle.x86_insn.specs.Moves.{mov_round, xchg_round, lea_round, movx_round, bswap_round, cmov_round, set_round, cbw_round, cwd_round, xlat_round, push_round, pop_round, pushad_round, popad_round, leave_round, pushfd_round, popfd_round, lahf_round, sahf_round, flag_round}
use Rattle.x86_insn.specs.Arithmetic.{alu_round, test_round, bump_round, unary_round, xadd_round, cmpxchg_round, mul_round, div_round, imul_round, shift_round, double_round, bit_round, scan_round}
use Rattle.x86_insn.specs.Segments.{to_gs_round, from_gs_round}
use Rattle.x86_insn.specs.Strings.{str_round, iterations}
use Rattle.x86_insn.specs.Transfers.{jump_hop, branch_hop, loop_hop, call_hop, call_via_hop, jump_via_hop, return_hop}

-- ---- operands that can't be reached

abbrev pub rm_beyond : Core → Rm → Bool
rm_beyond c (rm.R r) = false
rm_beyond c (rm.M m) = is_beyond c m

abbrev pub src_beyond : Core → Src → Bool
src_beyond c (src.R r) = false
src_beyond c (src.M m) = is_beyond c m
src_beyond c (src.Imm n) = false

-- POP reads the stack before it accesses its operand
abbrev pub pop_beyond : Core → Rm → List (List ℕ) → Bool
pop_beyond c dst [] = false
pop_beyond c dst (bytes ∷ rest) = rm_beyond c dst

-- what an instruction is about to access, after the byte lists that it has read so far, can't be reached
abbrev pub stands_beyond : Insn → Core → List (List ℕ) → Bool
stands_beyond (insn.Alu op w lock dst src) c got = rm_beyond c dst || src_beyond c src
stands_beyond (insn.Test w dst src) c got = rm_beyond c dst || src_beyond c src
stands_beyond (insn.Mov w dst src) c got = rm_beyond c dst || src_beyond c src
stands_beyond (insn.Xchg w lock dst r) c got = rm_beyond c dst
stands_beyond (insn.Movx signed from to dst src) c got = rm_beyond c src
stands_beyond (insn.Push src) c got = src_beyond c src
stands_beyond (insn.Pop dst) c got = pop_beyond c dst got
stands_beyond (insn.Bump up w lock dst) c got = rm_beyond c dst
stands_beyond (insn.Unary op w lock dst) c got = rm_beyond c dst
stands_beyond (insn.Mul signed w src) c got = rm_beyond c src
stands_beyond (insn.Div signed w src) c got = rm_beyond c src
stands_beyond (insn.Imul w dst src imm) c got = rm_beyond c src
stands_beyond (insn.Shift op w dst by) c got = rm_beyond c dst
stands_beyond (insn.Double left dst src by) c got = rm_beyond c dst
stands_beyond (insn.Bit op w lock dst index) c got = rm_beyond c dst
stands_beyond (insn.Scan up w dst src) c got = rm_beyond c src
stands_beyond (insn.Cmpxchg w lock dst src) c got = rm_beyond c dst
stands_beyond (insn.Xadd w lock dst src) c got = rm_beyond c dst
stands_beyond (insn.Set cond dst) c got = rm_beyond c dst
stands_beyond (insn.Cmov cond w dst src) c got = rm_beyond c src
stands_beyond (insn.ToGs src) c got = rm_beyond c src
stands_beyond (insn.FromGs w dst) c got = rm_beyond c dst
stands_beyond (insn.JumpVia src) c got = rm_beyond c src
stands_beyond (insn.CallVia src) c got = rm_beyond c src
stands_beyond i c got = false

-- such an instruction stops before the access
abbrev pub unless_beyond : {E : Type 0} → Bool → Ask E → Ask E
unless_beyond true ask = Halts (Trap Protection 0)
unless_beyond false ask = ask

-- ---- rounds

-- what a round asks, where what it accesses can be reached
abbrev pub reached_round : Insn → Descs → Core → List (List ℕ) → Ask Bool
reached_round (insn.Alu op w lock dst src) ds c got = alu_round op w dst src c got
reached_round (insn.Test w dst src) ds c got = test_round w dst src c got
reached_round (insn.Mov w dst src) ds c got = mov_round w dst src c got
reached_round (insn.Xchg w lock dst r) ds c got = xchg_round w dst r c got
reached_round (insn.Lea w dst m) ds c got = lea_round w dst m c
reached_round (insn.Movx signed from to dst src) ds c got = movx_round signed from to dst src c got
reached_round (insn.Bswap r) ds c got = bswap_round r c
reached_round (insn.Push src) ds c got = push_round src c got
reached_round (insn.Pop dst) ds c got = pop_round dst c got
reached_round insn.Pushad ds c got = pushad_round c
reached_round insn.Popad ds c got = popad_round c got
reached_round insn.Pushfd ds c got = pushfd_round c
reached_round insn.Popfd ds c got = popfd_round c got
reached_round insn.Leave ds c got = leave_round c got
reached_round (insn.Bump up w lock dst) ds c got = bump_round up w dst c got
reached_round (insn.Unary op w lock dst) ds c got = unary_round op w dst c got
reached_round (insn.Mul signed w src) ds c got = mul_round signed w src c got
reached_round (insn.Div signed w src) ds c got = div_round signed w src c got
reached_round (insn.Imul w dst src imm) ds c got = imul_round w dst src imm c got
reached_round (insn.Shift op w dst by) ds c got = shift_round op w dst by c got
reached_round (insn.Double left dst src by) ds c got = double_round left dst src by c got
reached_round (insn.Bit op w lock dst index) ds c got = bit_round op w dst index c got
reached_round (insn.Scan up w dst src) ds c got = scan_round up w dst src c got
reached_round (insn.Cmpxchg w lock dst src) ds c got = cmpxchg_round w dst src c got
reached_round (insn.Xadd w lock dst src) ds c got = xadd_round w dst src c got
reached_round (insn.Set cond dst) ds c got = set_round cond dst c
reached_round (insn.Cmov cond w dst src) ds c got = cmov_round cond w dst src c got
reached_round (insn.Cbw w) ds c got = cbw_round w c
reached_round (insn.Cwd w) ds c got = cwd_round w c
reached_round (insn.Str op w rep) ds c got = str_round op w rep c got
reached_round insn.Xlat ds c got = xlat_round c got
reached_round insn.Lahf ds c got = lahf_round c
reached_round insn.Sahf ds c got = sahf_round c
reached_round (insn.Flag op) ds c got = flag_round op c
reached_round insn.Nop ds c got = ends false c
reached_round insn.Pause ds c got = ends false c
reached_round insn.Endbr ds c got = ends false c
reached_round (insn.ToGs src) ds c got = to_gs_round ds src c got
reached_round (insn.FromGs w dst) ds c got = from_gs_round w dst c
reached_round insn.Int3 ds c got = Halts (Trap Breakpoint 0)
reached_round insn.Hlt ds c got = Halts (Trap Protection 0)
reached_round insn.Ud2 ds c got = Halts (Trap Invalid 0)
reached_round (insn.Jump rel) ds c got = Halts Outside
reached_round (insn.Branch cond rel) ds c got = Halts Outside
reached_round (insn.Loop kind rel) ds c got = Halts Outside
reached_round (insn.Call rel) ds c got = Halts Outside
reached_round (insn.JumpVia src) ds c got = Halts Outside
reached_round (insn.CallVia src) ds c got = Halts Outside
reached_round (insn.Ret drop) ds c got = Halts Outside
reached_round insn.Cpuid ds c got = Halts Outside
reached_round insn.Int80 ds c got = Halts Outside

-- a round of a Plain or Trap instruction, by the descriptors, the core before it, and the byte lists that the round has read
-- so far; its end says whether another round may follow. Transfers, CPUID and system calls have no round.
unfoldable pub round : Insn → Descs → Core → List (List ℕ) → Ask Bool
round i ds c got = unless_beyond (stands_beyond i c got) (reached_round i ds c got)

-- how many rounds an instruction has at most: one, but for a repeated string instruction
unfoldable pub limit : Insn → Core → ℕ
limit (insn.Str op w rep) c = iterations rep c
limit i c = 1

abbrev pub reached_hop : ℕ → Insn → Core → List (List ℕ) → Ask ℕ
reached_hop next (insn.Jump rel) c got = jump_hop next rel c
reached_hop next (insn.Branch cond rel) c got = branch_hop next cond rel c
reached_hop next (insn.Loop kind rel) c got = loop_hop next kind rel c
reached_hop next (insn.Call rel) c got = call_hop next rel c
reached_hop next (insn.CallVia src) c got = call_via_hop next src c got
reached_hop next (insn.JumpVia src) c got = jump_via_hop src c got
reached_hop next (insn.Ret drop) c got = return_hop drop c got
reached_hop next i c got = Halts Outside

-- a control transfer, by the address after it, the core, and what has been read so far; its end says where it goes. No
-- other instruction has one.
unfoldable pub hop : ℕ → Insn → Core → List (List ℕ) → Ask ℕ
hop next i c got = unless_beyond (stands_beyond i c got) (reached_hop next i c got)
