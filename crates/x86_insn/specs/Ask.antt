-- What an instruction asks of memory. This project's own.
-- An instruction is told apart from memory: it asks for reads, and ends with new registers and flags and at most one
-- write, or stops. So it reaches memory in no other way, and the instruction pointer is not told to it. An ask (the type
-- stands in src/) has bytes to read at a place, a stop, or the end: a new core, at most one write of bytes at a place,
-- and what is said besides (E).
use Rattle.std.specs.Prelude.{Result, Ok, Err, ◌%◌, ℕ, List, [], ◌∷◌, Some, None}
use Rattle.byteorder.specs.Endian.{little_number}
use Rattle.x86_insn.specs.declared.insn.Rm.{Rm}
use Rattle.x86_insn.specs.declared.insn.Rm.TheVariants as rm
use Rattle.x86_insn.specs.declared.insn.Src.{Src}
use Rattle.x86_insn.specs.declared.insn.Src.TheVariants as src
use Rattle.x86_insn.specs.declared.insn.Width.{Width}
use Rattle.x86_insn.specs.State.{Core}
use Rattle.x86_insn.specs.Values.{width_bytes, modulus}
use Rattle.x86_insn.specs.Operands.{reg_value, set_reg, effective_address, bytes_of}
pub use Rattle.x86_insn.specs.declared.ask.Ask.{Ask}
pub use Rattle.x86_insn.specs.declared.ask.Ask.TheVariants.{Reads, Halts, Ends}

-- ---- reads

-- a number that an instruction goes on with, and the byte lists that are left for later reads; or the place and the
-- length of the bytes that it has to ask for first
abbrev pub Got : Type 0
Got = Result (ℕ × List (List ℕ)) (ℕ × ℕ)

abbrev pub after_got : {E : Type 0} → Got → (ℕ → List (List ℕ) → Ask E) → Ask E
after_got (Ok p) go = go p.0 p.1
after_got (Err p) go = Reads p.0 p.1

-- the number of a width at a place
unfoldable pub got_at : ℕ → Width → List (List ℕ) → Got
got_at at w [] = Err (at, width_bytes w)
got_at at w (bytes ∷ rest) = Ok (little_number (width_bytes w) bytes, rest)

-- an operand's value; an immediate is kept modulo 2 to the width
unfoldable pub got_rm : Width → Core → Rm → List (List ℕ) → Got
got_rm w c (rm.R r) got = Ok (reg_value w c r, got)
got_rm w c (rm.M m) got = got_at (effective_address c m) w got

unfoldable pub got_src : Width → Core → Src → List (List ℕ) → Got
got_src w c (src.R r) got = Ok (reg_value w c r, got)
got_src w c (src.M m) got = got_at (effective_address c m) w got
got_src w c (src.Imm n) got = Ok (n % modulus w, got)

-- asks where it has to, and goes on
abbrev pub with_read : {E : Type 0} → ℕ → Width → List (List ℕ) → (ℕ → List (List ℕ) → Ask E) → Ask E
with_read at w got go = after_got (got_at at w got) go

abbrev pub with_rm : {E : Type 0} → Width → Core → Rm → List (List ℕ) → (ℕ → List (List ℕ) → Ask E) → Ask E
with_rm w c rm got go = after_got (got_rm w c rm got) go

abbrev pub with_src : {E : Type 0} → Width → Core → Src → List (List ℕ) → (ℕ → List (List ℕ) → Ask E) → Ask E
with_src w c src got go = after_got (got_src w c src got) go

-- ---- ends

-- ends with this core and no write
abbrev pub ends : {E : Type 0} → E → Core → Ask E
ends e c = Ends c None e

-- ends with a value in an operand; its address is that of the core before, its register one of the core after
abbrev pub ends_in : {E : Type 0} → E → Width → Rm → ℕ → Core → Core → Ask E
ends_in e w (rm.R r) n before after = Ends (set_reg w r n after) None e
ends_in e w (rm.M m) n before after = Ends after (Some (effective_address before m, bytes_of w n)) e
