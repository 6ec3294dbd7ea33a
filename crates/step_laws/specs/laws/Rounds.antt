-- Every round and every transfer ends within bounds: one line an instruction.
use Rattle.std.specs.Prelude.{ℕ, zero, suc, ◌-◌, ◌/◌, ◌%◌, ◌^◌, ◌<◌, Bool, true, false, List, [], ◌∷◌, Option, Some, None, IfSome, ◌==◌, nat_lt, slice_index, if◌then◌else◌}
use Rattle.std.specs.List.{AllByRecursion}
use Rattle.std.specs.Int.{w32, swap_bytes}
use Rattle.std.proofs.Common.{refl, arith}
use Rattle.mv_base.specs.Bytes.{AreBytes}
use Rattle.mv_base.specs.Effects.{Descs, base_at}
use Rattle.x86_insn.specs.declared.flags.Flags.{Flags}
use Rattle.x86_insn.specs.declared.insn.AluOp.{AluOp}
use Rattle.x86_insn.specs.declared.insn.AluOp.TheVariants.{Add}
use Rattle.x86_insn.specs.declared.insn.BitOp.{BitOp}
use Rattle.x86_insn.specs.declared.insn.Insn.{Insn}
use Rattle.x86_insn.specs.declared.insn.Insn.TheVariants as insn
use Rattle.x86_insn.specs.declared.insn.LoopKind.{LoopKind}
use Rattle.x86_insn.specs.declared.insn.LoopKind.TheVariants as loop
use Rattle.x86_insn.specs.declared.insn.Reg.{Reg}
use Rattle.x86_insn.specs.declared.insn.Reg.TheVariants.{Eax, Ecx, Edx, Esp, Ebp, Esi, Edi}
use Rattle.x86_insn.specs.declared.insn.Rep.{Rep}
use Rattle.x86_insn.specs.declared.insn.Rep.TheVariants.{Once, F3, F2}
use Rattle.x86_insn.specs.declared.insn.Rm.{Rm}
use Rattle.x86_insn.specs.declared.insn.Rm.TheVariants as rm
use Rattle.x86_insn.specs.declared.insn.ShiftOp.{ShiftOp}
use Rattle.x86_insn.specs.declared.insn.StrOp.{StrOp}
use Rattle.x86_insn.specs.declared.insn.StrOp.TheVariants.{Movs, Cmps, Stos, Lods, Scas}
use Rattle.x86_insn.specs.declared.insn.UnOp.{UnOp}
use Rattle.x86_insn.specs.declared.insn.UnOp.TheVariants.{Not, Neg}
use Rattle.x86_insn.specs.declared.insn.Width.{Width}
use Rattle.x86_insn.specs.declared.insn.Width.TheVariants.{B, W, D}
use Rattle.x86_insn.specs.declared.registers.Core.{Core}
use Rattle.x86_insn.specs.declared.ask.Ask.{Ask}
use Rattle.x86_insn.specs.State.{IsCore}
use Rattle.x86_insn.specs.Values.{modulus, half, alu_flags}
use Rattle.x86_insn.specs.Operands.{reg, set_reg, accumulator, ah, effective_address}
use Rattle.x86_insn.specs.Ask.{ends_in}
use Rattle.x86_insn.specs.Moves.{movx_value, sign_filled, pushes, popped_regs, popad_round, popfd_end, sets_other_flags}
use Rattle.x86_insn.specs.Arithmetic.{is_compare, alu_end, unary_end, cmpxchg_end, set_double, high_half, mul_end, div_end, count_of, shift_end, double_end, is_test, bit_end, scan_end}
use Rattle.x86_insn.specs.Strings.{moved, counted, str_round}
use Rattle.x86_insn.specs.Transfers.{loop_core, target_of}
use Rattle.x86_insn.specs.Segments.{set_gs, loaded_from, loaded, from_gs_round}
use Rattle.x86_insn.specs.Round.{stands_beyond, reached_round, round, reached_hop, hop}
use Rattle.step_laws.specs.laws.Values.{modulus_pos, mod_fits, wrapped_fits, alu_fits, bump_fits, difference_fits, not_fits, low_fits, high_fits, FitBoth, div_fits, shift_fits, double_fits, bit_fits, FitsIfSome, scan_fits}
use Rattle.step_laws.specs.laws.Ends.{EndsWell, AreRead, unless_beyond_ends, reg_fits, value_fits, set_core, flags_core, value_bytes, word_bytes, word_below, read_ends, rm_ends, src_ends, ends_in_well}

-- the end of a round may be anything
abbrev pub RoundEnds : Ask Bool → Type 0
RoundEnds ask = EndsWell (λ e. Unit {0}) ask

-- a transfer goes to an address
abbrev pub HopEnds : Ask ℕ → Type 0
HopEnds ask = EndsWell (λ to. to < 2 ^ 32) ask

-- ---- ends of rounds

in_well : (w : Width) (rm : Rm) (n : ℕ) (before after : Core) → n < modulus w → IsCore after → RoundEnds (ends_in false w rm n before after)
in_well w rm n before after h k = ends_in_well (λ e. Unit {0}) false w rm n before after tt h k

-- one of two ends
either_ends : (t : Bool) (p q : Ask Bool) → RoundEnds p → RoundEnds q → RoundEnds (if t then p else q)
either_ends true p q h k = h
either_ends false p q h k = k

either_core : (t : Bool) (c d : Core) → IsCore c → IsCore d → IsCore (if t then c else d)
either_core true c d h k = h
either_core false c d h k = k

either_number : (t : Bool) (a b m : ℕ) → a < m → b < m → (if t then a else b) < m
either_number true a b m h k = h
either_number false a b m h k = k

-- a register that becomes an address
address_core : (r : Reg) (a : ℕ) (c : Core) → IsCore c → IsCore (set_reg D r (a % 2 ^ 32) c)
address_core r a c h = set_core D r (a % 2 ^ 32) c h (omega arith)

double_core : (w : Width) (low high : ℕ) (c : Core) → IsCore c → low < modulus w → high < modulus w → IsCore (set_double w low high c)
double_core B low high c h l k = set_core B ah high _ (set_core B Eax low c h l) k
double_core W low high c h l k = set_core W Edx high _ (set_core W Eax low c h l) k
double_core D low high c h l k = set_core D Edx high _ (set_core D Eax low c h l) k

module _ (c : Core) (core : IsCore c) where
  -- ---- data

  movx_fits : (signed : Bool) (from to : Width) (n : ℕ) → movx_value signed from to n < modulus to
  movx_fits true from to n = wrapped_fits to _
  movx_fits false from to n = mod_fits to n

  swapped_fits : (n : ℕ) → swap_bytes w32 n < 2 ^ 32
  swapped_fits n = omega arith

  sign_filled_fits : (w : Width) (n : ℕ) → sign_filled w n < modulus w
  sign_filled_fits w n = either_number (nat_lt n (half w)) 0 (modulus w - 1) (modulus w) (modulus_pos w) (omega (arith, modulus_pos w))

  -- ---- the stack

  pushes_well : {E : Type 0} (Good : E → Type 0) (e : E) (n : ℕ) → Good e → EndsWell Good (pushes e n c)
  pushes_well Good e n g = (address_core Esp _ c core, value_bytes D n, g)

  popped_fits : (esp : ℕ) (bytes : List ℕ) → AreBytes bytes → (k : ℕ) → slice_index (popped_regs esp bytes) k < 2 ^ 32
  popped_fits esp bytes h zero = word_below 28 bytes h
  popped_fits esp bytes h (suc zero) = word_below 24 bytes h
  popped_fits esp bytes h (suc (suc zero)) = word_below 20 bytes h
  popped_fits esp bytes h (suc (suc (suc zero))) = word_below 16 bytes h
  popped_fits esp bytes h (suc (suc (suc (suc zero)))) = omega arith
  popped_fits esp bytes h (suc (suc (suc (suc (suc zero))))) = word_below 8 bytes h
  popped_fits esp bytes h (suc (suc (suc (suc (suc (suc zero)))))) = word_below 4 bytes h
  popped_fits esp bytes h (suc (suc (suc (suc (suc (suc (suc zero))))))) = word_below 0 bytes h
  popped_fits esp bytes h (suc (suc (suc (suc (suc (suc (suc (suc k)))))))) = omega arith

  popad_ends : (got : List (List ℕ)) → AreRead got → RoundEnds (popad_round c got)
  popad_ends [] h = tt
  popad_ends (bytes ∷ rest) h = (record { eight = refl; fits = popped_fits (reg c Esp) bytes h.0; selector = core.selector; base = core.base }, tt, tt)

  popfd_ends : (n : ℕ) → RoundEnds (popfd_end n c)
  popfd_ends n = either_ends (sets_other_flags n) _ _ tt (flags_core _ _ (address_core Esp _ c core), tt, tt)

  -- ---- sums and logic

  alu_ends : (op : AluOp) (w : Width) (dst : Rm) (a b : ℕ) → a < modulus w → b < modulus w → RoundEnds (alu_end op w dst a b c)
  alu_ends op w dst a b h k =
      let after = flags_core (alu_flags op w a b c.flags) c core in
      either_ends (is_compare op) _ _ (after, tt, tt) (in_well w dst _ c _ (alu_fits op w a b c.flags h k) after)

  unary_ends : (op : UnOp) (w : Width) (dst : Rm) (a : ℕ) → RoundEnds (unary_end op w dst a c)
  unary_ends Not w dst a = in_well w dst _ c c (not_fits w a) core
  unary_ends Neg w dst a = in_well w dst _ c _ (difference_fits w 0 a 0) (flags_core _ c core)

  cmpxchg_ends : (w : Width) (dst : Rm) (src : Reg) (a b : ℕ) (after : Core) → b < modulus w → IsCore after → RoundEnds (cmpxchg_end w dst src a b c after)
  cmpxchg_ends w dst src a b after h k = either_ends (a == b) _ _ (in_well w dst _ c after (value_fits w c src core) k) (in_well w dst b c _ h (set_core w Eax b after k h))

  -- ---- products and quotients

  high_half_fits : (w : Width) → high_half w c < modulus w
  high_half_fits B = value_fits B c ah core
  high_half_fits W = value_fits W c Edx core
  high_half_fits D = value_fits D c Edx core

  mul_ends : (signed : Bool) (w : Width) (a b : ℕ) → a < modulus w → b < modulus w → RoundEnds (mul_end signed w a b c)
  mul_ends signed w a b h k = (double_core w _ _ _ (flags_core _ c core) (low_fits signed w a b) (high_fits signed w a b h k), tt, tt)

  div_ends : (w : Width) (d : Option (ℕ × ℕ × Flags)) → FitBoth w d → RoundEnds (div_end w d c)
  div_ends w None h = tt
  div_ends w (Some d) h = (double_core w d.0 d.1 _ (flags_core d.2 c core) h.0 h.1, tt, tt)

  -- ---- shifts and bits

  shift_ends : (op : ShiftOp) (w : Width) (dst : Rm) (a n : ℕ) → a < modulus w → RoundEnds (shift_end op w dst a n c)
  shift_ends op w dst a n h = either_ends (n % 32 == 0) _ _ (core, tt, tt) (in_well w dst _ c _ (shift_fits op w a n c.flags h) (flags_core _ c core))

  double_ends : (left : Bool) (dst : Rm) (a b n : ℕ) → a < 2 ^ 32 → b < 2 ^ 32 → RoundEnds (double_end left dst a b n c)
  double_ends left dst a b n h k = either_ends (n % 32 == 0) _ _ (core, tt, tt) (in_well D dst _ c _ (double_fits left a b n h k) (flags_core _ c core))

  bit_ends : (op : BitOp) (w : Width) (dst : Rm) (a index : ℕ) → a < modulus w → RoundEnds (bit_end op w dst a index c)
  bit_ends op w dst a index h = either_ends (is_test op) _ _ (flags_core _ c core, tt, tt) (in_well w dst _ c _ (bit_fits op w a index h) (flags_core _ c core))

  scan_ends : (w : Width) (dst : Reg) (k : Option ℕ) (after : Core) → FitsIfSome w k → IsCore after → RoundEnds (scan_end w dst k after)
  scan_ends w dst None after h a = (a, tt, tt)
  scan_ends w dst (Some k) after h a = (set_core w dst k after a h, tt, tt)

-- ---- string instructions

moved_core : (w : Width) (r : Reg) (c : Core) → IsCore c → IsCore (moved w r c)
moved_core w r c h = set_core D r _ c h (either_number c.flags.df _ _ (2 ^ 32) (omega arith) (omega arith))

counted_core : (rep : Rep) (c : Core) → IsCore c → IsCore (counted rep c)
counted_core Once c h = h
counted_core F3 c h = address_core Ecx _ c h
counted_core F2 c h = address_core Ecx _ c h

string_ends : (op : StrOp) (w : Width) (rep : Rep) (c : Core) (got : List (List ℕ)) → IsCore c → AreRead got → RoundEnds (str_round op w rep c got)
string_ends Movs w rep c got core h = read_ends _ (reg c Esi) w got _ h (λ n rest l k. (counted_core rep _ (moved_core w Edi _ (moved_core w Esi c core)), value_bytes w n, tt))
string_ends Cmps w rep c got core h = read_ends _ (reg c Esi) w got _ h (λ a rest l k. read_ends _ (reg c Edi) w rest _ k (λ b more l' k'. (counted_core rep _ (flags_core _ _ (moved_core w Edi _ (moved_core w Esi c core))), tt, tt)))
string_ends Stos w rep c got core h = (counted_core rep _ (moved_core w Edi c core), value_bytes w _, tt)
string_ends Lods w rep c got core h = read_ends _ (reg c Esi) w got _ h (λ n rest l k. (counted_core rep _ (set_core w Eax n _ (moved_core w Esi c core) l), tt, tt))
string_ends Scas w rep c got core h = read_ends _ (reg c Edi) w got _ h (λ b rest l k. (counted_core rep _ (flags_core _ _ (moved_core w Edi c core)), tt, tt))

-- ---- moves to and from GS

-- descriptors whose bases have 32 bits
abbrev pub AreDescs : Descs → Type 0
AreDescs ds = AllByRecursion (λ d. d.1 < 2 ^ 32) ds

base_fits : (ds : Descs) (index : ℕ) → AreDescs ds → IfSome (base_at ds index) (λ b. b < 2 ^ 32)
base_fits [] index h = tt
base_fits (d ∷ ds) index h = go (d.0 == index) (base_fits ds index h.1)
  where
    go : (t : Bool) → IfSome (base_at ds index) (λ b. b < 2 ^ 32) → IfSome (if t then Some d.1 else base_at ds index) (λ b. b < 2 ^ 32)
    go true k = h.0
    go false k = k

gs_core : (selector : ℕ) (base : Option ℕ) (c : Core) → IsCore c → selector < 2 ^ 16 → IfSome base (λ b. b < 2 ^ 32) → IsCore (set_gs selector base c)
gs_core selector base c h l k = record { eight = h.eight; fits = h.fits; selector = l; base = k }

loaded_from_ends : (base : Option ℕ) (selector : ℕ) (c : Core) → IsCore c → selector < 2 ^ 16 → IfSome base (λ b. b < 2 ^ 32) → RoundEnds (loaded_from base selector c)
loaded_from_ends None selector c h l k = tt
loaded_from_ends (Some base) selector c h l k = (gs_core selector (Some base) c h l k, tt, tt)

loaded_ends : (ds : Descs) (selector : ℕ) (c : Core) → AreDescs ds → IsCore c → selector < 2 ^ 16 → RoundEnds (loaded ds selector c)
loaded_ends ds selector c d h l =
    either_ends (nat_lt selector 4) _ _ (gs_core selector None c h l tt, tt, tt)
    (either_ends (selector % 8 == 3) _ _ (loaded_from_ends (base_at ds (selector / 8)) selector c h l (base_fits ds (selector / 8) d)) tt)

from_gs_ends : (w : Width) (dst : Rm) (c : Core) → IsCore c → RoundEnds (from_gs_round w dst c)
from_gs_ends w (rm.R r) c h = (set_core w r _ c h (mod_fits w c.gs), tt, tt)
from_gs_ends w (rm.M m) c h = (h, value_bytes W c.gs, tt)

-- ---- the table of rounds

reached_ends : (i : Insn) (ds : Descs) (c : Core) (got : List (List ℕ)) → AreDescs ds → IsCore c → AreRead got → RoundEnds (reached_round i ds c got)
reached_ends (insn.Alu op w lock dst src) ds c got d core h = rm_ends _ w c dst got _ core h (λ a rest l k. src_ends _ w c src rest _ core k (λ b more l' k'. alu_ends c core op w dst a b l l'))
reached_ends (insn.Test w dst src) ds c got d core h = rm_ends _ w c dst got _ core h (λ a rest l k. src_ends _ w c src rest _ core k (λ b more l' k'. (flags_core _ c core, tt, tt)))
reached_ends (insn.Mov w dst src) ds c got d core h = src_ends _ w c src got _ core h (λ n rest l k. in_well w dst n c c l core)
reached_ends (insn.Xchg w lock dst r) ds c got d core h = rm_ends _ w c dst got _ core h (λ n rest l k. in_well w dst _ c _ (value_fits w c r core) (set_core w r n c core l))
reached_ends (insn.Lea w dst m) ds c got d core h = (set_core w dst _ c core (mod_fits w (effective_address c m)), tt, tt)
reached_ends (insn.Movx signed from to dst src) ds c got d core h = rm_ends _ from c src got _ core h (λ n rest l k. (set_core to dst _ c core (movx_fits c core signed from to n), tt, tt))
reached_ends (insn.Bswap r) ds c got d core h = (set_core D r _ c core (swapped_fits c core (reg c r)), tt, tt)
reached_ends (insn.Push src) ds c got d core h = src_ends _ D c src got _ core h (λ n rest l k. pushes_well c core (λ e. Unit {0}) false n tt)
reached_ends (insn.Pop dst) ds c got d core h = read_ends _ (reg c Esp) D got _ h (λ n rest l k. in_well D dst n _ _ l (address_core Esp _ c core))
reached_ends insn.Pushad ds c got d core h = (address_core Esp _ c core, word_bytes _, tt)
reached_ends insn.Popad ds c got d core h = popad_ends c core got h
reached_ends insn.Pushfd ds c got d core h = pushes_well c core (λ e. Unit {0}) false _ tt
reached_ends insn.Popfd ds c got d core h = read_ends _ (reg c Esp) D got _ h (λ n rest l k. popfd_ends c core n)
reached_ends insn.Leave ds c got d core h = read_ends _ (reg c Ebp) D got _ h (λ n rest l k. (set_core D Ebp n _ (address_core Esp _ c core) l, tt, tt))
reached_ends (insn.Bump up w lock dst) ds c got d core h = rm_ends _ w c dst got _ core h (λ a rest l k. in_well w dst _ c _ (bump_fits up w a) (flags_core _ c core))
reached_ends (insn.Unary op w lock dst) ds c got d core h = rm_ends _ w c dst got _ core h (λ a rest l k. unary_ends c core op w dst a)
reached_ends (insn.Mul signed w src) ds c got d core h = rm_ends _ w c src got _ core h (λ b rest l k. mul_ends c core signed w (accumulator w c) b (value_fits w c Eax core) l)
reached_ends (insn.Div signed w src) ds c got d core h = rm_ends _ w c src got _ core h (λ by rest l k. div_ends c core w _ (div_fits signed w (high_half w c) (accumulator w c) by c.flags l))
reached_ends (insn.Imul w dst src imm) ds c got d core h = rm_ends _ w c src got _ core h (λ a rest l k. (set_core w dst _ _ (flags_core _ c core) (low_fits true w a _), tt, tt))
reached_ends (insn.Shift op w dst by) ds c got d core h = rm_ends _ w c dst got _ core h (λ a rest l k. shift_ends c core op w dst a (count_of by c) l)
reached_ends (insn.Double left dst src by) ds c got d core h = rm_ends _ D c dst got _ core h (λ a rest l k. double_ends c core left dst a (reg c src) (count_of by c) l (reg_fits c src core))
reached_ends (insn.Bit op w lock dst index) ds c got d core h = rm_ends _ w c dst got _ core h (λ a rest l k. src_ends _ w c index rest _ core k (λ n more l' k'. bit_ends c core op w dst a n l))
reached_ends (insn.Scan up w dst src) ds c got d core h = rm_ends _ w c src got _ core h (λ a rest l k. scan_ends c core w dst _ _ (scan_fits up w a) (flags_core _ c core))
reached_ends (insn.Cmpxchg w lock dst src) ds c got d core h = rm_ends _ w c dst got _ core h (λ b rest l k. cmpxchg_ends c core w dst src (accumulator w c) b _ l (flags_core _ c core))
reached_ends (insn.Xadd w lock dst src) ds c got d core h = rm_ends _ w c dst got _ core h (λ a rest l k. in_well w dst _ c _ (alu_fits Add w a _ c.flags l (value_fits w c src core)) (set_core w src a _ (flags_core _ c core) l))
reached_ends (insn.Set cond dst) ds c got d core h = in_well B dst _ c c (either_number _ 1 0 (modulus B) (omega arith) (omega arith)) core
reached_ends (insn.Cmov cond w dst src) ds c got d core h = rm_ends _ w c src got _ core h (λ n rest l k. (either_core _ _ _ (set_core w dst n c core l) core, tt, tt))
reached_ends (insn.Cbw w) ds c got d core h = (set_core w Eax _ c core (wrapped_fits w _), tt, tt)
reached_ends (insn.Cwd w) ds c got d core h = (set_core w Edx _ c core (sign_filled_fits c core w _), tt, tt)
reached_ends (insn.Str op w rep) ds c got d core h = string_ends op w rep c got core h
reached_ends insn.Xlat ds c got d core h = read_ends _ _ B got _ h (λ n rest l k. (set_core B Eax n c core l, tt, tt))
reached_ends insn.Lahf ds c got d core h = (set_core B ah _ c core (omega arith), tt, tt)
reached_ends insn.Sahf ds c got d core h = (flags_core _ c core, tt, tt)
reached_ends (insn.Flag op) ds c got d core h = (flags_core _ c core, tt, tt)
reached_ends insn.Nop ds c got d core h = (core, tt, tt)
reached_ends insn.Pause ds c got d core h = (core, tt, tt)
reached_ends insn.Endbr ds c got d core h = (core, tt, tt)
reached_ends (insn.ToGs src) ds c got d core h = rm_ends _ W c src got _ core h (λ selector rest l k. loaded_ends ds selector c d core l)
reached_ends (insn.FromGs w dst) ds c got d core h = from_gs_ends w dst c core
reached_ends insn.Int3 ds c got d core h = tt
reached_ends insn.Hlt ds c got d core h = tt
reached_ends insn.Ud2 ds c got d core h = tt
reached_ends (insn.Jump rel) ds c got d core h = tt
reached_ends (insn.Branch cond rel) ds c got d core h = tt
reached_ends (insn.Loop kind rel) ds c got d core h = tt
reached_ends (insn.Call rel) ds c got d core h = tt
reached_ends (insn.JumpVia src) ds c got d core h = tt
reached_ends (insn.CallVia src) ds c got d core h = tt
reached_ends (insn.Ret drop) ds c got d core h = tt
reached_ends insn.Cpuid ds c got d core h = tt
reached_ends insn.Int80 ds c got d core h = tt

pub round_ends : (i : Insn) (ds : Descs) (c : Core) (got : List (List ℕ)) → AreDescs ds → IsCore c → AreRead got → RoundEnds (round i ds c got)
unfolding round
round_ends i ds c got d core h = unless_beyond_ends (λ e. Unit {0}) (stands_beyond i c got) (reached_round i ds c got) (reached_ends i ds c got d core h)

-- ---- the table of transfers

loop_core_is : (kind : LoopKind) (c : Core) → IsCore c → IsCore (loop_core kind c)
loop_core_is loop.Ne c h = address_core Ecx _ c h
loop_core_is loop.E c h = address_core Ecx _ c h
loop_core_is loop.Plain c h = address_core Ecx _ c h
loop_core_is loop.Ecxz c h = h

target_fits : (next rel : ℕ) → target_of next rel < 2 ^ 32
target_fits next rel = omega arith

reached_hop_ends : (next : ℕ) (i : Insn) (c : Core) (got : List (List ℕ)) → next < 2 ^ 32 → IsCore c → AreRead got → HopEnds (reached_hop next i c got)
reached_hop_ends next (insn.Jump rel) c got low core h = (core, tt, target_fits next rel)
reached_hop_ends next (insn.Branch cond rel) c got low core h = (core, tt, either_number _ _ next (2 ^ 32) (target_fits next rel) low)
reached_hop_ends next (insn.Loop kind rel) c got low core h = (loop_core_is kind c core, tt, either_number _ _ next (2 ^ 32) (target_fits next rel) low)
reached_hop_ends next (insn.Call rel) c got low core h = pushes_well c core (λ to. to < 2 ^ 32) (target_of next rel) next (target_fits next rel)
reached_hop_ends next (insn.CallVia src) c got low core h = rm_ends (λ to. to < 2 ^ 32) D c src got _ core h (λ to rest l k. pushes_well c core (λ to. to < 2 ^ 32) to next l)
reached_hop_ends next (insn.JumpVia src) c got low core h = rm_ends (λ to. to < 2 ^ 32) D c src got _ core h (λ to rest l k. (core, tt, l))
reached_hop_ends next (insn.Ret drop) c got low core h = read_ends (λ to. to < 2 ^ 32) (reg c Esp) D got _ h (λ to rest l k. (address_core Esp _ c core, tt, l))
reached_hop_ends next _ c got low core h = tt

pub hop_ends : (next : ℕ) (i : Insn) (c : Core) (got : List (List ℕ)) → next < 2 ^ 32 → IsCore c → AreRead got → HopEnds (hop next i c got)
unfolding hop
hop_ends next i c got low core h = unless_beyond_ends (λ to. to < 2 ^ 32) (stands_beyond i c got) (reached_hop next i c got) (reached_hop_ends next i c got low core h)
