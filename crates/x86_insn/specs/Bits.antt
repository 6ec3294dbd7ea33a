-- Values and flags of the bit tests and bit scans, over whole numbers. Intel SDM, volume 2. What the SDM leaves undefined
-- is this project's own: OF, SF, AF and PF after them, and CF after a scan, are 0, and a test keeps ZF.
use Rattle.std.specs.Prelude.{ℕ, ◌+◌, ◌-◌, ◌<◌, ◌%◌, ◌^◌, Bool, true, false, if◌then◌else◌, ◌==◌, Option, Some, None, IsTrue, IsFalse}
use Rattle.std.specs.Int.{w32, trailing_zeros, leading_zeros}
use Rattle.x86_insn.specs.declared.flags.Flags.{Flags}
use Rattle.x86_insn.specs.declared.insn.Width.{Width}
use Rattle.x86_insn.specs.declared.insn.BitOp.{BitOp}
use Rattle.x86_insn.specs.declared.insn.BitOp.TheVariants.{Bt, Bts, Btr, Btc}
use Rattle.x86_insn.specs.Values.{width_bits}
use Rattle.x86_insn.specs.Shifts.{is_set}

-- ---- BT, BTS, BTR and BTC

-- bit k as it is, set, reset or complemented
abbrev pub at_bit : BitOp → ℕ → ℕ → ℕ
at_bit Bt a k = a
at_bit Bts a k = if is_set k a then a else a + 2 ^ k
at_bit Btr a k = if is_set k a then a - 2 ^ k else a
at_bit Btc a k = if is_set k a then a - 2 ^ k else a + 2 ^ k

abbrev pub bit_value : BitOp → Width → ℕ → ℕ → ℕ
bit_value op w a index = at_bit op a (index % width_bits w)

-- CF is the old bit
abbrev pub bit_flags : Width → ℕ → ℕ → Flags → Flags
bit_flags w a index f =
    record f { cf = is_set (index % width_bits w) a; of = false; sf = false; af = false; pf = false }

-- ---- BSF (up) and BSR: the place of the lowest or highest bit that is set, none for 0

abbrev pub scan_value : Bool → ℕ → Option ℕ
scan_value true a = if a == 0 then None else Some (trailing_zeros w32 a)
scan_value false a = if a == 0 then None else Some (31 - leading_zeros w32 a)

abbrev pub scan_flags : ℕ → Flags → Flags
scan_flags a f = record f { zf = a == 0; cf = false; of = false; sf = false; af = false; pf = false }

-- bit k of a is set, and for a scan up none below it, for a scan down none above it
pub record IsLowestSet (a k : ℕ) : Type 0 where
  pub set : IsTrue (is_set k a)
  pub below : (j : ℕ) → j < k → IsFalse (is_set j a)

pub record IsHighestSet (a k : ℕ) : Type 0 where
  pub set : IsTrue (is_set k a)
  pub above : (j : ℕ) → k < j → IsFalse (is_set j a)

abbrev pub IsFirstSet : Bool → ℕ → ℕ → Type 0
IsFirstSet true a k = IsLowestSet a k
IsFirstSet false a k = IsHighestSet a k
