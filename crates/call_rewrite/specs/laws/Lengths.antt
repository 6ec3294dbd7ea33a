-- How many bytes a piece has, and the bytes that load an operand.
use Rattle.std.specs.Prelude.{◌≡◌, ℕ, zero, suc, ◌≤◌, ◌⊎◌, Bool, true, false, List, [], length, Option, unwrap_or, if◌then◌else◌}
use Rattle.std.proofs.Common.{refl, ap, ◌∙◌, inl, inr, arith}
use Rattle.std.proofs.lemmas.List.{length-append}
use Rattle.mv_base.specs.Bytes.{word}
use Rattle.x86_insn.specs.declared.insn.Insn.{Insn}
use Rattle.x86_insn.specs.declared.insn.Insn.TheVariants as insn
use Rattle.x86_insn.specs.declared.insn.Reg.TheVariants.{Eax}
use Rattle.x86_insn.specs.declared.insn.Rm.{Rm}
use Rattle.x86_insn.specs.declared.insn.Rm.TheVariants as rm
use Rattle.x86_insn.specs.declared.insn.Width.TheVariants.{D}
use Rattle.x86_insn.specs.Meaning.{source_of}
use Rattle.x86_insn.specs.Spelling.{Spells, spelled}
use Rattle.x86_insn.specs.Laws.{spells_spelled}
use Rattle.x86_encode.specs.Candidates.{is_gs}
use Rattle.x86_encode.specs.Encoding.{IsLeast}
use Rattle.x86_encode.specs.laws.Loads.{operand_loads}
use Rattle.call_rewrite.specs.Far.{LoadsOperand, far_bytes, far_size, load_bytes, load_of}

word_len : (n : ℕ) → length (word n) ≡ 4
unfolding word
word_len n = refl

pub far_sized : (load : List ℕ) (i : Insn) (next here goal p : ℕ) → length (far_bytes load i next here goal p) ≡ far_size load i
far_sized load (insn.Call rel) next here goal p = simp (length-append {A = ℕ}, word_len) (omega arith)
far_sized load (insn.CallVia src) next here goal p = simp (length-append {A = ℕ}, word_len) (omega arith)
far_sized load (insn.JumpVia src) next here goal p = simp (length-append {A = ℕ}, word_len) (omega arith)
far_sized load (insn.Ret zero) next here goal p = simp (length-append {A = ℕ}, word_len) (omega arith)
far_sized load (insn.Ret (suc n)) next here goal p = simp (length-append {A = ℕ}, word_len) (omega arith)
far_sized load i next here goal p = refl

-- ---- what loads the operand of a spelled jump or call

-- the least bytes of MOV to EAX
record Loaded (x : Rm) : Type 0 where
  is : List ℕ
  bytes : load_bytes x ≡ is
  least : IsLeast (insn.Mov D (rm.R Eax) (source_of x)) is
  short : length is ≤ 8

-- one byte more where 65 stands before it
most_of : (gs : Bool) (n : ℕ) → n ≤ (if gs then 8 else 7) → n ≤ 8
most_of true n h = h
most_of false n h = omega arith

loaded : (s : List ℕ) (x : Rm) → (Spells s (insn.JumpVia x) ⊎ Spells s (insn.CallVia x)) → Loaded x
loaded s x h = let w = operand_loads s x h in record { is = w.0; bytes = ap (λ (o : Option (List ℕ)). unwrap_or o []) w.1; least = w.2; short = most_of (is_gs x) (length w.0) w.3 }

short_of : (x : Rm) → Loaded x → length (load_bytes x) ≤ 8
short_of x w = omega (arith, ap length w.bytes, w.short)

-- they are at most 8, of whatever has a spelling
pub load_short : (s : List ℕ) (i : Insn) → Spells s i → length (load_of i) ≤ 8
load_short s (insn.JumpVia x) w = short_of x (loaded s x (inl w))
load_short s (insn.CallVia x) w = short_of x (loaded s x (inr w))
load_short s i w = omega arith

-- they load it
pub loads_operand : (s : List ℕ) (x : Rm) → (Spells s (insn.JumpVia x) ⊎ Spells s (insn.CallVia x)) → LoadsOperand x (load_bytes x)
loads_operand s x h = let w = loaded s x h in record { spells = ap spelled w.bytes ∙ spells_spelled w.is _ w.least.spells }
