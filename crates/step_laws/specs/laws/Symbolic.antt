-- Symbolic runs: a step of code that stands in memory is one line. The words that the code writes are a log of numbered
-- places over the memory that it found; every state on the way keeps the rest.
use Rattle.std.proofs.Common.{◌≡◌, ℕ, zero, suc, ◌+◌, ◌-◌, ◌*◌, ◌%◌, ◌^◌, ◌<◌, ◌≤◌, Bool, true, false, List, [], ◌∷◌, ◌++◌, length, drop, Option, Some, None, is_some, if◌then◌else◌, slice_index, refl, sym, ap, ◌∙◌, subst, arith, length-append, get_or-drop, append-nil}
use Rattle.std.specs.List.{concat}
use Rattle.std.specs.Option.{option_map}
use Rattle.std.proofs.lemmas.List.Folds.{concat-append}
use Rattle.std.proofs.lemmas.Bool.{true≢false}
use Rattle.std.proofs.lemmas.Option.{none-some, same_Some}
use Rattle.byteorder.specs.Endian.{little_number}
use Rattle.byteorder.specs.Numbers.{little_number-reads_back}
use Rattle.mv_base.specs.Bytes.{word, word_at}
use Rattle.mv_base.specs.Memory.{Cell, Memory, is_mapped, byte_of, address_after, read_fault, bytes_at}
use Rattle.x86_insn.specs.declared.flags.Flags.{Flags}
use Rattle.x86_insn.specs.declared.insn.Cond.{Cond}
use Rattle.x86_insn.specs.declared.insn.Flow.{Flow}
use Rattle.x86_insn.specs.declared.insn.Flow.TheVariants as flow
use Rattle.x86_insn.specs.declared.insn.Insn.{Insn}
use Rattle.x86_insn.specs.declared.insn.Insn.TheVariants as insn
use Rattle.x86_insn.specs.declared.insn.LoopKind.{LoopKind}
use Rattle.x86_insn.specs.declared.insn.Mem.{Mem}
use Rattle.x86_insn.specs.declared.insn.Reg.{Reg}
use Rattle.x86_insn.specs.declared.insn.Reg.TheVariants.{Esp}
use Rattle.x86_insn.specs.declared.insn.Rm.TheVariants as rm
use Rattle.x86_insn.specs.declared.insn.Src.TheVariants as src
use Rattle.x86_insn.specs.declared.insn.Width.TheVariants.{D}
use Rattle.x86_insn.specs.declared.registers.Core.{Core}
use Rattle.x86_insn.specs.declared.ask.Ask.TheVariants.{Reads, Ends}
use Rattle.x86_insn.specs.Flow.{flow_of}
use Rattle.x86_insn.specs.Flags.{flag_image}
use Rattle.x86_insn.specs.Conditions.{holds}
use Rattle.x86_insn.specs.Operands.{reg, set_reg, set_flags, effective_address, address_before, bytes_of}
use Rattle.x86_insn.specs.Ask.{got_at, got_rm, got_src}
use Rattle.x86_insn.specs.Moves.{pushes, risen, popfd_end}
use Rattle.x86_insn.specs.Transfers.{loop_core, loop_jumps}
use Rattle.x86_insn.specs.State.{IsCore, State, Next}
use Rattle.x86_insn.specs.Round.{round, limit, hop}
use Rattle.x86_insn.specs.Step.{Found, fetch, Ended, turn, is_cpuid, step}
use Rattle.step_laws.specs.Passes.{Passes}
use Rattle.step_laws.specs.Standing.{Stands, Holds}
use Rattle.step_laws.specs.Keeping.{KeepsRest}
use Rattle.step_laws.specs.laws.Passing.{passes_none, passes_first}
use Rattle.step_laws.specs.laws.Fetching.{standing_fetched}
pub use Rattle.step_laws.specs.laws.Fetching.{stands_front, stands_back}
use Rattle.step_laws.specs.laws.Spelled.{Spelled}
use Rattle.step_laws.specs.laws.Putting.{none_failing, bytes_are, keeps_read_fault, keeps_bytes, keeps_stands}
use Rattle.step_laws.specs.laws.Images.{image_low, image_back}
use Rattle.step_laws.specs.laws.Turns.{moved, is_transfer, turn_ends, turn_writes, turn_reads, turn_moves, runs, goes}
use Rattle.step_laws.specs.laws.Logs.{Log, stored, newest, may_all, HasPlaces, held, stored_keeps, stored_word, stored_free, stored_mapped}

-- ---- the run

-- the state that a run begins with, and the places that it may write
pub record Setting : Type 0 where
  pub start : State
  pub at : ℕ → ℕ
  pub may : ℕ → Bool
  pub scratch : ℕ → Bool
  pub places : HasPlaces at may scratch start.memory

abbrev pub memory_of : Setting → Log → Memory
memory_of g log = stored g.at g.start.memory log

-- a state of the run
abbrev pub on : Setting → Core → ℕ → Log → State
on g c e log = moved g.start c e (memory_of g log)

-- from a state of the run, n steps lead to t, and each state before it keeps the rest
pub record Comes (g : Setting) (n : ℕ) (c : Core) (e : ℕ) (log : Log) (t : State) : Type 0 where
  pub passes : Passes (KeepsRest g.scratch g.start) n (on g c e log) t

-- these instructions stand there, where the run may not write
pub record Code (g : Setting) (e : ℕ) (xs : List (List ℕ)) : Type 0 where
  pub stands : Stands g.start.memory e (concat xs)
  pub apart : (k : ℕ) → k < length (concat xs) → g.scratch (e + k) ≡ false

-- a number of four bytes, by its bytes
number_of : (bs cs : List ℕ) → slice_index bs 0 ≡ slice_index cs 0 → slice_index bs 1 ≡ slice_index cs 1 → slice_index bs 2 ≡ slice_index cs 2 → slice_index bs 3 ≡ slice_index cs 3 → little_number 4 cs ≡ little_number 4 bs
number_of bs cs p q r t = λ i. sym p i + 256 * (sym q i + 256 * (sym r i + 256 * (sym t i + 256 * 0)))

-- ---- instructions of one round

abbrev is_plain : Flow → Bool
is_plain flow.Plain = true
is_plain _ = false

-- no transfer, no system call, no trap, no string instruction and not CPUID
abbrev pub is_simple : Insn → Bool
is_simple (insn.Str op w rep) = false
is_simple insn.Cpuid = false
is_simple i = is_plain (flow_of i)

simple_plain : (i : Insn) → is_simple i ≡ true → flow_of i ≡ flow.Plain
simple_plain (insn.Str op w rep) h = refl
simple_plain insn.Cpuid h = refl
simple_plain i h = go (flow_of i) h
  where
    go : (f : Flow) → is_plain f ≡ true → f ≡ flow.Plain
    go flow.Plain h = refl
    go _ h = absurd (true≢false (sym h))

simple_once : (i : Insn) (c : Core) → is_simple i ≡ true → limit i c ≡ 1
unfolding limit
simple_once (insn.Str op w rep) c h = absurd (true≢false (sym h))
simple_once _ c h = refl

simple_rounds : (i : Insn) → is_simple i ≡ true → is_cpuid i ≡ false
simple_rounds insn.Cpuid h = absurd (true≢false (sym h))
simple_rounds _ h = refl

-- memory that is not relative to GS
abbrev pub flat : Option Reg → Option (Reg × ℕ) → ℕ → Mem
flat b f d = record { base = b; index = f; disp = d; gs = false }

module _ (g : Setting) where
  code_split : (e : ℕ) (x : List ℕ) (xs : List (List ℕ)) → Stands g.start.memory e (x ++ concat xs) → ((k : ℕ) → k < length (x ++ concat xs) → g.scratch (e + k) ≡ false) → Code g (e + length x) xs
  code_split e x xs s apart = record {
    stands = stands_back g.start.memory e x (concat xs) s;
    apart = λ k l.
        let place : e + (length x + k) ≡ e + length x + k = omega arith in
        subst (λ a. g.scratch a ≡ false) place (apart (length x + k) (omega (arith, length-append x (concat xs))));
  }

  -- what stands behind the first instruction, and behind the first ones
  pub code_rest : {e : ℕ} {x : List ℕ} {xs : List (List ℕ)} → Code g e (x ∷ xs) → Code g (e + length x) xs
  code_rest {e} {x} {xs} code = code_split e x xs code.stands code.apart

  pub code_after : (e : ℕ) (xs ys : List (List ℕ)) → Code g e (xs ++ ys) → Code g (e + length (concat xs)) ys
  code_after e xs ys code =
      let parts = concat-append xs ys in
      code_split e (concat xs) ys (subst (λ (s : List ℕ). Stands g.start.memory e s) parts code.stands) (λ k l. code.apart k (omega (arith, l, ap length parts)))

  pub code_low : {e : ℕ} {x : List ℕ} {xs : List (List ℕ)} → Code g e (x ∷ xs) → address_after e (length x) ≡ e + length x
  code_low {e} {x} {xs} code = omega (arith, code.stands.low, length-append x (concat xs))

  -- ---- a state of the run

  pub keeps_rest : (c : Core) (e : ℕ) (log : Log) → may_all g.may log ≡ true → KeepsRest g.scratch g.start (on g c e log)
  keeps_rest c e log ok = record { descs = refl; calls = refl; answers = refl; memory = stored_keeps g.at g.may g.scratch g.start.memory g.places log ok }

  pub fetched_on : (log : Log) {e : ℕ} {x : List ℕ} {i : Insn} {xs : List (List ℕ)} → Spelled x i → may_all g.may log ≡ true → Code g e (x ∷ xs) → fetch (memory_of g log) e ≡ Found i (length x)
  fetched_on log {e} {x} {i} {xs} s ok code =
      standing_fetched (memory_of g log) e x i s.spells
      (keeps_stands g.scratch g.start.memory (memory_of g log) (stored_keeps g.at g.may g.scratch g.start.memory g.places log ok) e x
      (λ k l. code.apart k (omega (arith, l, length-append x (concat xs)))) (stands_front g.start.memory e x (concat xs) code.stands))

  -- the end of a run
  pub done : {c : Core} {e : ℕ} {log : Log} → Comes g 0 c e log (on g c e log)
  done {c} {e} {log} = record { passes = passes_none (KeepsRest g.scratch g.start) (on g c e log) }

  -- one step and the rest
  next_on : {n : ℕ} {c c' : Core} {e e' : ℕ} {log log' : Log} {t : State} → may_all g.may log ≡ true → step (on g c e log) ≡ Next (on g c' e' log') → Comes g n c' e' log' t → Comes g (suc n) c e log t
  next_on {n} {c} {c'} {e} {e'} {log} {log'} {t} ok st rest =
      record { passes = passes_first (KeepsRest g.scratch g.start) n (on g c e log) (on g c' e' log') t (keeps_rest c e log ok) st rest.passes }

  -- ---- instructions that are no transfer

  -- one turn, where the code goes on behind it
  pub plain : {n : ℕ} {c c' : Core} {e : ℕ} {log log' : Log} {t : State} {x : List ℕ} {i : Insn} {xs : List (List ℕ)} → Spelled x i → is_simple i ≡ true
      → turn (memory_of g log) (round i g.start.descs c) ≡ Ended c' (memory_of g log') false → may_all g.may log ≡ true → Code g e (x ∷ xs)
      → (Code g (e + length x) xs → Comes g n c' (e + length x) log' t) → Comes g (suc n) c e log t
  plain {c = c} {c' = c'} {e = e} {log = log} {log' = log'} {x = x} {i = i} s simple ends ok code rest =
      next_on ok
      (runs g.start c e (memory_of g log) i (length x) (fetched_on log s ok code) (simple_plain i simple) (simple_rounds i simple) (simple_once i c simple) c' (memory_of g log') ends
      ∙ ap (λ a. Next (moved g.start c' a (memory_of g log'))) (code_low code))
      (rest (code_rest code))

  -- no access
  pub quiet : {n : ℕ} {c c' : Core} {e : ℕ} {log : Log} {t : State} {x : List ℕ} {i : Insn} {xs : List (List ℕ)} → Spelled x i → is_simple i ≡ true
      → round i g.start.descs c [] ≡ Ends c' None false → may_all g.may log ≡ true → Code g e (x ∷ xs)
      → (Code g (e + length x) xs → Comes g n c' (e + length x) log t) → Comes g (suc n) c e log t
  quiet {c = c} {c' = c'} {log = log} {i = i} s simple ask ok code rest = plain s simple (turn_ends (memory_of g log) (round i g.start.descs c) c' false ask) ok code rest

  -- a write of a word at a numbered place
  pub write : (j v : ℕ) {n : ℕ} {c c' : Core} {e a : ℕ} {log : Log} {t : State} {x : List ℕ} {i : Insn} {xs : List (List ℕ)} → Spelled x i → is_simple i ≡ true
      → round i g.start.descs c [] ≡ Ends c' (Some (a, bytes_of D v)) false → a ≡ g.at j → g.may j ≡ true → may_all g.may log ≡ true → Code g e (x ∷ xs)
      → (Code g (e + length x) xs → Comes g n c' (e + length x) ((j, v) ∷ log) t) → Comes g (suc n) c e log t
  unfolding stored word
  write j v {c = c} {c' = c'} {log = log} {i = i} s simple ask place free ok code rest =
      plain s simple
      (turn_writes (memory_of g log) (round i g.start.descs c) c' (g.at j) (bytes_of D v) false (ask ∙ ap (λ (b : ℕ). Ends c' (Some (b, bytes_of D v)) false) place) (stored_free g.at g.may g.scratch g.start.memory g.places log j ok free))
      ok code rest

  -- a push, where the word below ESP is a numbered place
  pub push : (j v : ℕ) {n : ℕ} {c : Core} {e : ℕ} {log : Log} {t : State} {x : List ℕ} {i : Insn} {xs : List (List ℕ)} → Spelled x i → is_simple i ≡ true
      → round i g.start.descs c [] ≡ pushes false v c → address_before (reg c Esp) 4 ≡ g.at j → g.may j ≡ true → may_all g.may log ≡ true → Code g e (x ∷ xs)
      → (Code g (e + length x) xs → Comes g n (set_reg D Esp (g.at j) c) (e + length x) ((j, v) ∷ log) t) → Comes g (suc n) c e log t
  push j v {c = c} s simple ask place free ok code rest =
      write j v s simple (ask ∙ ap (λ (b : ℕ). Ends (set_reg D Esp b c) (Some (address_before (reg c Esp) 4, bytes_of D v)) false) place) place free ok code rest

  -- ---- words that are read

  -- this word is read at an address
  pub record Word (log : Log) (a v : ℕ) : Type 0 where
    pub mapped : read_fault (memory_of g log) a 4 ≡ None
    pub value : little_number 4 (bytes_at (memory_of g log) a 4) ≡ v

  number_back : (v : ℕ) → v < 2 ^ 32 → little_number 4 (word v) ≡ v
  unfolding word
  number_back v low = ap (little_number 4) (sym (append-nil (word v))) ∙ little_number-reads_back 4 v [] low

  -- the newest that was written at a numbered place
  pub written : (j v : ℕ) {log : Log} → newest log j ≡ Some v → v < 2 ^ 32 → g.may j ≡ true → may_all g.may log ≡ true → Word log (g.at j) v
  written j v {log} new low free ok = record {
    mapped = stored_mapped g.at g.may g.scratch g.start.memory g.places log j ok free;
    value =
        ap (little_number 4) (stored_word g.at g.may g.scratch g.start.memory g.places log j ok free ∙ ap (λ o. held o (bytes_at g.start.memory (g.at j) 4)) new)
        ∙ number_back v low;
  }

  -- one that stood there before the run
  pub unwritten : (j v : ℕ) {log : Log} → newest log j ≡ None → bytes_at g.start.memory (g.at j) 4 ≡ word v → v < 2 ^ 32 → g.may j ≡ true → may_all g.may log ≡ true → Word log (g.at j) v
  unwritten j v {log} none there low free ok = record {
    mapped = stored_mapped g.at g.may g.scratch g.start.memory g.places log j ok free;
    value =
        ap (little_number 4) (stored_word g.at g.may g.scratch g.start.memory g.places log j ok free ∙ ap (λ o. held o (bytes_at g.start.memory (g.at j) 4)) none ∙ there)
        ∙ number_back v low;
  }

  -- one that is no scratch
  pub outside : (a v : ℕ) {log : Log} → a < 2 ^ 32 → read_fault g.start.memory a 4 ≡ None → little_number 4 (bytes_at g.start.memory a 4) ≡ v
      → ((k : ℕ) → k < 4 → g.scratch (address_after a k) ≡ false) → may_all g.may log ≡ true → Word log a v
  outside a v {log} low mapped there apart ok =
      let keeps = stored_keeps g.at g.may g.scratch g.start.memory g.places log ok in
      record {
        mapped = keeps_read_fault g.scratch g.start.memory (memory_of g log) keeps a 4 ∙ mapped;
        value = ap (little_number 4) (keeps_bytes g.scratch g.start.memory (memory_of g log) keeps 4 a low apart) ∙ there;
      }

  -- one of bytes that can be read, none of which is scratch
  pub held_word : (lo : ℕ) (bytes : List ℕ) (a : ℕ) {log : Log} → Holds g.start.memory lo bytes → ((k : ℕ) → k < length bytes → g.scratch (lo + k) ≡ false) → lo ≤ a → a + 4 ≤ lo + length bytes
      → may_all g.may log ≡ true → Word log a (word_at bytes (a - lo))
  unfolding word_at
  held_word lo bytes a {log} there_held apart low high ok = outside a (word_at bytes (a - lo)) (omega (arith, there_held.low)) mapped value free ok
    where
      m : Memory
      m = g.start.memory

      place : (b : ℕ) → lo + (a - lo + b) ≡ a + b
      place b = omega arith

      some : (c : Option Cell) (y : ℕ) → option_map (λ c. c.byte) c ≡ Some y → is_some c ≡ true
      some None y e = absurd (none-some y e)
      some (Some c) y e = refl

      byte : (c : Option Cell) (y : ℕ) → option_map (λ c. c.byte) c ≡ Some y → byte_of c ≡ y
      byte None y e = absurd (none-some y e)
      byte (Some c) y e = same_Some c.byte y e

      there : (b : ℕ) → b < 4 → option_map (λ c. c.byte) (m (a + b)) ≡ Some (slice_index bytes (a - lo + b))
      there b l = subst (λ x. option_map (λ c. c.byte) (m x) ≡ Some (slice_index bytes (a - lo + b))) (place b) (there_held.byte (a - lo + b) (omega arith))

      mapped : read_fault m a 4 ≡ None
      mapped = none_failing (is_mapped m) a 4 (omega (arith, there_held.low)) (λ b l. some (m (a + b)) (slice_index bytes (a - lo + b)) (there b l))

      four : List ℕ
      four = slice_index bytes (a - lo + 0) ∷ slice_index bytes (a - lo + 1) ∷ slice_index bytes (a - lo + 2) ∷ slice_index bytes (a - lo + 3) ∷ []

      each : (b : ℕ) → b < 4 → byte_of (m (a + b)) ≡ slice_index four b
      each zero l = byte (m (a + 0)) (slice_index bytes (a - lo + 0)) (there 0 l)
      each (suc zero) l = byte (m (a + 1)) (slice_index bytes (a - lo + 1)) (there 1 l)
      each (suc (suc zero)) l = byte (m (a + 2)) (slice_index bytes (a - lo + 2)) (there 2 l)
      each (suc (suc (suc zero))) l = byte (m (a + 3)) (slice_index bytes (a - lo + 3)) (there 3 l)
      each (suc (suc (suc (suc b)))) l = absurd (omega arith)

      value : little_number 4 (bytes_at m a 4) ≡ word_at bytes (a - lo)
      value = ap (little_number 4) (bytes_are m four a (omega (arith, there_held.low)) each) ∙ number_of (drop (a - lo) bytes) four (get_or-drop (a - lo) bytes 0 0) (get_or-drop (a - lo) bytes 1 0) (get_or-drop (a - lo) bytes 2 0) (get_or-drop (a - lo) bytes 3 0)

      free : (k : ℕ) → k < 4 → g.scratch (address_after a k) ≡ false
      free k l =
          let here : lo + (a - lo + k) ≡ address_after a k = omega (arith, there_held.low) in
          subst (λ x. g.scratch x ≡ false) here (apart (a - lo + k) (omega arith))

  -- ---- reads

  -- a read of a word, by which the core goes on
  pub read : (a v : ℕ) (make : ℕ → Core) {n : ℕ} {c : Core} {e b : ℕ} {log : Log} {t : State} {x : List ℕ} {i : Insn} {xs : List (List ℕ)} → Spelled x i → is_simple i ≡ true
      → round i g.start.descs c [] ≡ Reads b 4 → b ≡ a → ((bytes : List ℕ) → round i g.start.descs c (bytes ∷ []) ≡ Ends (make (little_number 4 bytes)) None false) → Word log a v
      → may_all g.may log ≡ true → Code g e (x ∷ xs)
      → (Code g (e + length x) xs → Comes g n (make v) (e + length x) log t) → Comes g (suc n) c e log t
  read a v make {c = c} {log = log} {i = i} s simple ask place core w ok code rest =
      plain s simple
      (turn_reads (memory_of g log) (round i g.start.descs c) a 4 (make v) false (ask ∙ ap (λ (b : ℕ). Reads b 4) place) w.mapped
      (core (bytes_at (memory_of g log) a 4) ∙ ap (λ (k : ℕ). Ends (make k) None false) w.value))
      ok code rest

  -- a register from memory
  pub load : (a v : ℕ) {n : ℕ} {c : Core} {e : ℕ} {log : Log} {t : State} {x : List ℕ} {r : Reg} {b : Option Reg} {f : Option (Reg × ℕ)} {d : ℕ} {xs : List (List ℕ)} → Spelled x (insn.Mov D (rm.R r) (src.M (flat b f d)))
      → effective_address c (flat b f d) ≡ a → Word log a v → may_all g.may log ≡ true → Code g e (x ∷ xs)
      → (Code g (e + length x) xs → Comes g n (set_reg D r v c) (e + length x) log t) → Comes g (suc n) c e log t
  unfolding round got_src got_at
  load a v {c = c} {r = r} s place w ok code rest = read a v (λ (n : ℕ). set_reg D r n c) s refl refl place (λ bytes. refl) w ok code rest

  -- a register to a numbered place
  pub store : (j : ℕ) {n : ℕ} {c : Core} {e : ℕ} {log : Log} {t : State} {x : List ℕ} {r : Reg} {b : Option Reg} {f : Option (Reg × ℕ)} {d : ℕ} {xs : List (List ℕ)} → Spelled x (insn.Mov D (rm.M (flat b f d)) (src.R r))
      → effective_address c (flat b f d) ≡ g.at j → g.may j ≡ true → may_all g.may log ≡ true → Code g e (x ∷ xs)
      → (Code g (e + length x) xs → Comes g n c (e + length x) ((j, reg c r) ∷ log) t) → Comes g (suc n) c e log t
  unfolding round got_src
  store j {c = c} {r = r} s place free ok code rest = write j (reg c r) s refl refl place free ok code rest

  -- a pop into a register, where ESP is at a numbered place
  pub pop : (j k v : ℕ) {n : ℕ} {c : Core} {e : ℕ} {log : Log} {t : State} {x : List ℕ} {r : Reg} {xs : List (List ℕ)} → Spelled x (insn.Pop (rm.R r))
      → reg c Esp ≡ g.at j → address_after (g.at j) 4 ≡ g.at k → Word log (g.at j) v → may_all g.may log ≡ true → Code g e (x ∷ xs)
      → (Code g (e + length x) xs → Comes g n (set_reg D r v (set_reg D Esp (g.at k) c)) (e + length x) log t) → Comes g (suc n) c e log t
  unfolding round got_at
  pop j k v {c = c} {r = r} s here above w ok code rest =
      let up : address_after (reg c Esp) 4 ≡ g.at k = ap (λ (b : ℕ). address_after b 4) here ∙ above in
      read (g.at j) v (λ (m : ℕ). set_reg D r m (set_reg D Esp (g.at k) c)) s refl refl here
      (λ bytes. ap (λ (b : ℕ). Ends (set_reg D r (little_number 4 bytes) (set_reg D Esp b c)) None false) up) w ok code rest

  -- POPFD of an image that PUSHFD pushed, where ESP is at a numbered place
  pub pop_flags : (j k : ℕ) (f : Flags) {n : ℕ} {c : Core} {e : ℕ} {log : Log} {t : State} {x : List ℕ} {xs : List (List ℕ)} → Spelled x insn.Popfd
      → reg c Esp ≡ g.at j → address_after (g.at j) 4 ≡ g.at k → newest log j ≡ Some (flag_image f) → g.may j ≡ true → may_all g.may log ≡ true → Code g e (x ∷ xs)
      → (Code g (e + length x) xs → Comes g n (set_flags f (set_reg D Esp (g.at k) c)) (e + length x) log t) → Comes g (suc n) c e log t
  unfolding round got_at
  pop_flags j k f {c = c} {log = log} s here above new free ok code rest =
      let w = written j (flag_image f) new (image_low f) free ok in
      let up : address_after (reg c Esp) 4 ≡ g.at k = ap (λ (b : ℕ). address_after b 4) here ∙ above in
      plain s refl
      (turn_reads (memory_of g log) (round insn.Popfd g.start.descs c) (g.at j) 4 (set_flags f (set_reg D Esp (g.at k) c)) false (ap (λ (b : ℕ). Reads b 4) here) w.mapped
      (ap (λ (m : ℕ). popfd_end m c) w.value ∙ image_back f c ∙ ap (λ (b : ℕ). Ends (set_flags f (set_reg D Esp b c)) None false) up))
      ok code rest

  -- a pop into a word at a numbered place
  pub pop_to : (j v : ℕ) {n : ℕ} {c : Core} {e : ℕ} {log : Log} {t : State} {x : List ℕ} {b : Option Reg} {f : Option (Reg × ℕ)} {d : ℕ} {xs : List (List ℕ)} → Spelled x (insn.Pop (rm.M (flat b f d)))
      → effective_address (risen 4 c) (flat b f d) ≡ g.at j → Word log (reg c Esp) v → g.may j ≡ true → may_all g.may log ≡ true → Code g e (x ∷ xs)
      → (Code g (e + length x) xs → Comes g n (risen 4 c) (e + length x) ((j, v) ∷ log) t) → Comes g (suc n) c e log t
  unfolding round got_at stored word
  pop_to j v {c = c} {log = log} {b = b} {f = f} {d = d} s place w free ok code rest =
      plain s refl
      (turn_moves (memory_of g log) (round (insn.Pop (rm.M (flat b f d))) g.start.descs c) (reg c Esp) 4 (risen 4 c) (g.at j) (bytes_of D v) false refl w.mapped
      (ap (λ (b : ℕ). Ends (risen 4 c) (Some (b, bytes_of D (little_number 4 (bytes_at (memory_of g log) (reg c Esp) 4)))) false) place
      ∙ ap (λ (b : ℕ). Ends (risen 4 c) (Some (g.at j, bytes_of D b)) false) w.value)
      (stored_free g.at g.may g.scratch g.start.memory g.places log j ok free))
      ok code rest

  -- ---- transfers

  -- one without an access: the run goes on where it goes
  pub transfer : {n : ℕ} {c c' : Core} {e to : ℕ} {log : Log} {t : State} {x : List ℕ} {i : Insn} {xs : List (List ℕ)} → Spelled x i → is_transfer (flow_of i) ≡ true
      → hop (e + length x) i c [] ≡ Ends c' None to → may_all g.may log ≡ true → Code g e (x ∷ xs) → Comes g n c' to log t → Comes g (suc n) c e log t
  transfer {c = c} {c' = c'} {e = e} {to = to} {log = log} {x = x} {i = i} s flow ask ok code rest =
      next_on ok
      (goes g.start c e (memory_of g log) i (length x) (fetched_on log s ok code) flow c' (memory_of g log) to
      (turn_ends (memory_of g log) (hop (address_after e (length x)) i c) c' to (ap (λ (a : ℕ). hop a i c []) (code_low code) ∙ ask)))
      rest

  -- a direct jump
  pub jump : (to : ℕ) {n : ℕ} {c : Core} {e : ℕ} {log : Log} {t : State} {x : List ℕ} {rel : ℕ} {xs : List (List ℕ)} → Spelled x (insn.Jump rel)
      → address_after (e + length x) rel ≡ to → may_all g.may log ≡ true → Code g e (x ∷ xs) → Comes g n c to log t → Comes g (suc n) c e log t
  unfolding hop
  jump to {c = c} s there ok code rest = transfer s refl (ap (λ (a : ℕ). Ends c None a) there) ok code rest

  -- a branch whose condition holds, and one whose condition does not
  pub taken : (to : ℕ) {n : ℕ} {c : Core} {e : ℕ} {log : Log} {t : State} {x : List ℕ} {cond : Cond} {rel : ℕ} {xs : List (List ℕ)} → Spelled x (insn.Branch cond rel)
      → holds cond c.flags ≡ true → address_after (e + length x) rel ≡ to → may_all g.may log ≡ true → Code g e (x ∷ xs) → Comes g n c to log t → Comes g (suc n) c e log t
  unfolding hop
  taken to {c = c} {e = e} {x = x} {rel = rel} s holds_there there ok code rest =
      transfer s refl (ap (λ (b : Bool). Ends c None (if b then address_after (e + length x) rel else e + length x)) holds_there ∙ ap (λ (a : ℕ). Ends c None a) there) ok code rest

  pub passed : {n : ℕ} {c : Core} {e : ℕ} {log : Log} {t : State} {x : List ℕ} {cond : Cond} {rel : ℕ} {xs : List (List ℕ)} → Spelled x (insn.Branch cond rel)
      → holds cond c.flags ≡ false → may_all g.may log ≡ true → Code g e (x ∷ xs)
      → (Code g (e + length x) xs → Comes g n c (e + length x) log t) → Comes g (suc n) c e log t
  unfolding hop
  passed {c = c} {e = e} {x = x} {rel = rel} s fails ok code rest =
      transfer s refl (ap (λ (b : Bool). Ends c None (if b then address_after (e + length x) rel else e + length x)) fails) ok code (rest (code_rest code))

  -- LOOP and its kin: one that jumps, and one that does not
  pub looped : (to : ℕ) {n : ℕ} {c : Core} {e : ℕ} {log : Log} {t : State} {x : List ℕ} {kind : LoopKind} {rel : ℕ} {xs : List (List ℕ)} → Spelled x (insn.Loop kind rel)
      → loop_jumps kind (loop_core kind c) ≡ true → address_after (e + length x) rel ≡ to → may_all g.may log ≡ true → Code g e (x ∷ xs)
      → Comes g n (loop_core kind c) to log t → Comes g (suc n) c e log t
  unfolding hop
  looped to {c = c} {e = e} {x = x} {kind = kind} {rel = rel} s holds_there there ok code rest =
      transfer s refl (ap (λ (b : Bool). Ends (loop_core kind c) None (if b then address_after (e + length x) rel else e + length x)) holds_there ∙ ap (λ (a : ℕ). Ends (loop_core kind c) None a) there) ok code rest

  pub left : {n : ℕ} {c : Core} {e : ℕ} {log : Log} {t : State} {x : List ℕ} {kind : LoopKind} {rel : ℕ} {xs : List (List ℕ)} → Spelled x (insn.Loop kind rel)
      → loop_jumps kind (loop_core kind c) ≡ false → may_all g.may log ≡ true → Code g e (x ∷ xs)
      → (Code g (e + length x) xs → Comes g n (loop_core kind c) (e + length x) log t) → Comes g (suc n) c e log t
  unfolding hop
  left {c = c} {e = e} {x = x} {kind = kind} {rel = rel} s fails ok code rest =
      transfer s refl (ap (λ (b : Bool). Ends (loop_core kind c) None (if b then address_after (e + length x) rel else e + length x)) fails) ok code (rest (code_rest code))

  -- a jump through a word of memory
  pub via : (a v : ℕ) {n : ℕ} {c : Core} {e : ℕ} {log : Log} {t : State} {x : List ℕ} {b : Option Reg} {f : Option (Reg × ℕ)} {d : ℕ} {xs : List (List ℕ)} → Spelled x (insn.JumpVia (rm.M (flat b f d)))
      → effective_address c (flat b f d) ≡ a → Word log a v → may_all g.may log ≡ true → Code g e (x ∷ xs) → Comes g n c v log t → Comes g (suc n) c e log t
  unfolding hop got_rm got_at
  via a v {c = c} {e = e} {log = log} {x = x} {b = b} {f = f} {d = d} s place w ok code rest =
      next_on ok
      (goes g.start c e (memory_of g log) (insn.JumpVia (rm.M (flat b f d))) (length x) (fetched_on log s ok code) refl c (memory_of g log) v
      (turn_reads (memory_of g log) (hop (address_after e (length x)) (insn.JumpVia (rm.M (flat b f d))) c) a 4 c v (ap (λ (b : ℕ). Reads b 4) place) w.mapped
      (ap (λ (b : ℕ). Ends c None b) w.value)))
      rest

-- the effective address of an operand that is a displacement alone: it has neither base nor index
pub absolute : (n : ℕ) → n < 2 ^ 32 → (0 + 0 + 0 + n) % 2 ^ 32 ≡ n
absolute n low = omega arith

-- ---- the first state

-- a core of eight registers and flags, and of GS with a base or without one
abbrev pub core_of : ℕ → ℕ → ℕ → ℕ → ℕ → ℕ → ℕ → ℕ → Flags → ℕ → Option ℕ → Core
core_of eax ecx edx ebx esp ebp esi edi f gs base = record { regs = eax ∷ ecx ∷ edx ∷ ebx ∷ esp ∷ ebp ∷ esi ∷ edi ∷ []; flags = f; gs = gs; gs_base = base }

eight : (rs : List ℕ) → length rs ≡ 8 → slice_index rs 0 ∷ slice_index rs 1 ∷ slice_index rs 2 ∷ slice_index rs 3 ∷ slice_index rs 4 ∷ slice_index rs 5 ∷ slice_index rs 6 ∷ slice_index rs 7 ∷ [] ≡ rs
eight (a ∷ b ∷ c ∷ d ∷ e ∷ f ∷ g ∷ h ∷ []) l = refl
eight [] l = absurd (omega arith)
eight (a ∷ []) l = absurd (omega arith)
eight (a ∷ b ∷ []) l = absurd (omega arith)
eight (a ∷ b ∷ c ∷ []) l = absurd (omega arith)
eight (a ∷ b ∷ c ∷ d ∷ []) l = absurd (omega arith)
eight (a ∷ b ∷ c ∷ d ∷ e ∷ []) l = absurd (omega arith)
eight (a ∷ b ∷ c ∷ d ∷ e ∷ f ∷ []) l = absurd (omega arith)
eight (a ∷ b ∷ c ∷ d ∷ e ∷ f ∷ g ∷ []) l = absurd (omega arith)
eight (a ∷ b ∷ c ∷ d ∷ e ∷ f ∷ g ∷ h ∷ i ∷ rest) l = absurd (omega arith)

pub whole_core : (c : Core) → IsCore c → core_of (slice_index c.regs 0) (slice_index c.regs 1) (slice_index c.regs 2) (slice_index c.regs 3) (slice_index c.regs 4) (slice_index c.regs 5) (slice_index c.regs 6) (slice_index c.regs 7) c.flags c.gs c.gs_base ≡ c
whole_core c h = λ t. record { regs = eight c.regs h.eight t; flags = c.flags; gs = c.gs; gs_base = c.gs_base }

-- a run from its first state on
pub from_start : (g : Setting) (n : ℕ) (c : Core) (e : ℕ) (t : State) → c ≡ g.start.core → g.start.eip ≡ e → Comes g n c e [] t → Passes (KeepsRest g.scratch g.start) n g.start t
unfolding stored
from_start g n c e t core place h =
    let same : on g c e [] ≡ g.start = λ i. record { core = core i; descs = g.start.descs; eip = sym place i; memory = g.start.memory; answers = g.start.answers; calls = g.start.calls } in
    subst (λ s. Passes (KeepsRest g.scratch g.start) n s t) same h.passes
