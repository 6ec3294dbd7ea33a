-- Symbolic runs that write the first two private words, and what they read of a memory that stands beside another.
use Rattle.std.specs.Prelude.{◌≡◌, ℕ, ◌+◌, ◌*◌, ◌<◌, Bool, true, false, List, [], Some, None, nat_lt}
use Rattle.std.specs.List.{concat}
use Rattle.std.proofs.Common.{refl, sym, ap, ap₂, ◌∙◌, subst, arith}
use Rattle.std.proofs.lemmas.Bool.{ltb-true}
use Rattle.byteorder.specs.Endian.{little_number}
use Rattle.mv_base.specs.Memory.{read_fault, bytes_at}
use Rattle.x86_insn.specs.declared.insn.Rm.{Rm}
use Rattle.x86_insn.specs.declared.insn.Rm.TheVariants as rm
use Rattle.x86_insn.specs.declared.registers.Core.{Core}
use Rattle.x86_insn.specs.Operands.{effective_address}
use Rattle.x86_insn.specs.State.{State}
use Rattle.x86_insn.specs.Round.{rm_beyond}
use Rattle.step_laws.specs.Standing.{IsRoom}
use Rattle.step_laws.specs.Bounds.{IsState}
use Rattle.step_laws.specs.Beside.{StatesBeside}
use Rattle.step_laws.specs.Meeting.{Area, HasArea, StandsIn, GoesVia}
use Rattle.step_laws.specs.laws.Cells.{IsClearFault}
use Rattle.step_laws.specs.laws.Coding.{low_memory}
use Rattle.step_laws.specs.laws.Alongside.{Alongside, keeps_same, read_fault_along, bytes_along}
use Rattle.step_laws.specs.laws.Logs.{Log, stored, may_all, newest, held, stored_keeps, stored_word}
use Rattle.step_laws.specs.laws.PrivateWords.{word_place, word_places}
use Rattle.step_laws.specs.laws.Turns.{moved}
use Rattle.step_laws.specs.laws.Symbolic.{Setting, Code, Word, memory_of, on}
use Rattle.step_laws.specs.laws.Resting.{cells_keep, cells_beside, rest_top}
use Rattle.call_rewrite.specs.laws.Operands.{operand_value, operand_fault, stop_by, operand_stop, IsClearIfSome, reached, clear_fault}

abbrev pub first_two : ℕ → Bool
first_two j = nat_lt j 2

module _ (area : Area) (o t : State) (there : HasArea area t.memory) (w : StatesBeside area.added o t) (bounds : IsState o) where
  pub room : IsRoom t.memory area.private 8
  room = record { writable = λ k h. there.writable (area.private + k) (there.private k (omega arith)); low = omega (arith, there.fits) }

  pub inside : (j b : ℕ) → first_two j ≡ true → b < 4 → area.scratch (area.private + 4 * j + b) ≡ true
  inside j b h l =
      let few = ltb-true j 2 h in
      let place : area.private + (4 * j + b) ≡ area.private + 4 * j + b = omega arith in
      subst (λ a. area.scratch a ≡ true) place (there.private (4 * j + b) (omega (arith, few)))

  -- a run from t that may write the first two private words
  abbrev pub own : Setting
  own = record {
    start = t;
    at = word_place area.private;
    may = first_two;
    scratch = area.scratch;
    places = word_places area.private 2 first_two area.scratch t.memory room (λ j h. ltb-true j 2 h) inside (rest_top area o t there w bounds.memory);
  }

  -- where it begins
  pub settled : (here : ℕ) → t.eip ≡ here → moved t o.core here t.memory ≡ t
  settled here place = ap₂ (λ (c : Core) (e : ℕ). moved t c e t.memory) (sym w.core) (sym place)

  pub begins : (here : ℕ) → t.eip ≡ here → on own o.core here [] ≡ t
  unfolding stored
  begins here place = settled here place

  pub alongside : Alongside area t.memory o.memory t.memory
  alongside = record { low = low_memory o.memory bounds.memory; beside = w.memory; keeps = keeps_same area t.memory }

  -- a piece's instructions
  pub code_of : (here : ℕ) (xs : List (List ℕ)) → StandsIn area t.memory here (concat xs) → Code own here xs
  code_of here xs s = record { stands = s.stands; apart = s.fixed }

  -- its memories stand beside o's
  pub along : (log : Log) → may_all first_two log ≡ true → Alongside area t.memory o.memory (memory_of own log)
  along log ok =
      let keeps = stored_keeps own.at own.may own.scratch t.memory own.places log ok in
      record {
        low = low_memory o.memory bounds.memory;
        beside = cells_beside area t.memory there o.memory (memory_of own log) w.memory keeps;
        keeps = cells_keep area t.memory there (memory_of own log) keeps;
      }

  -- an operand is read as o reads it
  fault_along : (log : Log) (c : Core) (src : Rm) → may_all first_two log ≡ true → IsClearFault area.added (operand_fault o.memory c src) → operand_fault (memory_of own log) c src ≡ operand_fault o.memory c src
  fault_along log c (rm.R r) ok clear = refl
  fault_along log c (rm.M a) ok clear = read_fault_along area there.low t.memory o.memory (memory_of own log) (along log ok) (effective_address c a) 4 clear

  -- and can't be where o can't read it
  pub stop_along : (log : Log) (c : Core) (src : Rm) → may_all first_two log ≡ true → IsClearIfSome area.added (operand_stop o.memory c src) → operand_stop (memory_of own log) c src ≡ operand_stop o.memory c src
  stop_along log c src ok clear = by (rm_beyond c src) clear
    where
      by : (b : Bool) → IsClearIfSome area.added (stop_by b (operand_fault o.memory c src)) → stop_by b (operand_fault (memory_of own log) c src) ≡ stop_by b (operand_fault o.memory c src)
      by true clear = refl
      by false clear = ap (stop_by false) (fault_along log c src ok (clear_fault area.added (operand_fault o.memory c src) clear))

  read_along : (log : Log) (c : Core) (src : Rm) → may_all first_two log ≡ true → operand_fault o.memory c src ≡ None → operand_value (memory_of own log) c src ≡ operand_value o.memory c src
  read_along log c (rm.R r) ok none = refl
  read_along log c (rm.M a) ok none = ap (little_number 4) (bytes_along area there.low t.memory o.memory (memory_of own log) (along log ok) (effective_address c a) 4 none)

  pub value_along : (log : Log) (c : Core) (src : Rm) → may_all first_two log ≡ true → operand_stop o.memory c src ≡ None → operand_value (memory_of own log) c src ≡ operand_value o.memory c src
  value_along log c src ok none = read_along log c src ok (reached (rm_beyond c src) (operand_fault o.memory c src) none).1

  -- a word of o's memory
  pub word_along : (log : Log) (a : ℕ) → may_all first_two log ≡ true → read_fault o.memory a 4 ≡ None → Word own log a (little_number 4 (bytes_at o.memory a 4))
  word_along log a ok none = record {
    mapped = read_fault_along area there.low t.memory o.memory (memory_of own log) (along log ok) a 4 (subst (IsClearFault area.added) (sym none) tt) ∙ none;
    value = ap (little_number 4) (bytes_along area there.low t.memory o.memory (memory_of own log) (along log ok) a 4 none);
  }

  -- the second private word has the target
  pub via_arrives : (c : Core) (e v : ℕ) (log : Log) → may_all first_two log ≡ true → newest log 1 ≡ Some v → GoesVia area e v (on own c e log)
  via_arrives c e v log ok new =
      (refl, stored_word own.at own.may own.scratch t.memory own.places log 1 ok refl ∙ ap (λ n. held n (bytes_at t.memory (own.at 1) 4)) new)
