-- A symbolic run of a counter, one line a step.
use Rattle.std.proofs.Common.{◌≡◌, ℕ, suc, zero, ◌+◌, ◌%◌, ◌^◌, ◌<◌, Bool, true, false, ◌==◌, List, [], ◌∷◌, Option, None, Some, nat_lt, refl, ap, arith}
use Rattle.mv_base.specs.Bytes.{word}
use Rattle.mv_base.specs.Memory.{bytes_at}
use Rattle.x86_insn.specs.declared.ask.Ask.TheVariants.{Ends}
use Rattle.x86_insn.specs.declared.flags.Flags.{Flags}
use Rattle.x86_insn.specs.declared.registers.Core.{Core}
use Rattle.x86_insn.specs.Ask.{got_at, got_src}
use Rattle.x86_insn.specs.Round.{round}
use Rattle.x86_insn.specs.State.{State}
use Rattle.step_laws.specs.laws.Logs.{Log, newest, may_all, HasPlaces}
use Rattle.step_laws.specs.laws.Symbolic.{Setting, Code, code_after, Comes, on, core_of, absolute, written, unwritten, quiet, load, store, jump, looped, left, done}
use Rattle.counter_hooks.specs.Counter.{counter_parts}
use Rattle.counter_hooks.specs.Counting.{is_scratch}
use Rattle.counter_hooks.specs.laws.Spellings as spelling

-- the words that a counter writes: where ECX is kept, its low word, and its high one
abbrev pub word_place : ℕ → ℕ → ℕ → ℕ
word_place p k zero = p
word_place p k (suc zero) = k
word_place p k (suc (suc j)) = k + 4

abbrev pub may : ℕ → Bool
may j = nat_lt j 3

-- the registers but ECX, the flags, and GS
pub record Kept : Type 0 where
  pub eax : ℕ
  pub edx : ℕ
  pub ebx : ℕ
  pub esp : ℕ
  pub ebp : ℕ
  pub esi : ℕ
  pub edi : ℕ
  pub flags : Flags
  pub gs : ℕ
  pub gs_base : Option ℕ

-- with a number in ECX
abbrev pub core_with : Kept → ℕ → Core
core_with r ecx = core_of r.eax ecx r.edx r.ebx r.esp r.ebp r.esi r.edi r.flags r.gs r.gs_base

-- one more, as LEA gives it
abbrev pub raised : ℕ → ℕ
raised n = (n + 1) % 2 ^ 32

raised_is : (n : ℕ) → (0 + n + 0 + 1) % 2 ^ 32 % 2 ^ 32 ≡ raised n
raised_is n = omega arith

raised_low : (n : ℕ) → raised n < 2 ^ 32
raised_low n = omega arith

-- what is written where the low word does not wrap, and where it does
abbrev pub low_log : ℕ → ℕ → Log
low_log ecx lo = (1, raised lo) ∷ (0, ecx) ∷ []

abbrev pub high_log : ℕ → ℕ → ℕ → Log
high_log ecx lo hi = (2, raised hi) ∷ low_log ecx lo

module _ (s : State) (p k : ℕ) (private : p + 4 < 2 ^ 32) (room : k + 8 < 2 ^ 32) (places : HasPlaces (word_place p k) may (is_scratch p k) s.memory) (r : Kept) where
  abbrev pub g : Setting
  g = record { start = s; at = word_place p k; may = may; scratch = is_scratch p k; places = places }

  -- the low word is raised
  low_comes : (ecx lo : ℕ) {n e : ℕ} {t : State} {xs : List (List ℕ)} → lo < 2 ^ 32 → bytes_at s.memory k 4 ≡ word lo
      → Code g e ((0x89 ∷ 0x0D ∷ word p) ∷ (0x8B ∷ 0x0D ∷ word k) ∷ (0x8D ∷ 0x49 ∷ 0x01 ∷ []) ∷ (0x89 ∷ 0x0D ∷ word k) ∷ xs)
      → (Code g (e + 6 + 6 + 3 + 6) xs → Comes g n (core_with r (raised lo)) (e + 6 + 6 + 3 + 6) (low_log ecx lo) t)
      → Comes g (suc (suc (suc (suc n)))) (core_with r ecx) e [] t
  unfolding round got_src got_at word
  low_comes ecx lo low there code rest =
      store g 0 (spelling.keep p (omega arith)) (absolute p (omega arith)) refl refl code (λ code.
      load g k lo (spelling.take k (omega arith)) (absolute k (omega arith)) (unwritten g 1 lo refl there low refl refl) refl code (λ code.
      quiet g spelling.raise refl (ap (λ (n : ℕ). Ends (core_with r n) None false) (raised_is lo)) refl code (λ code.
      store g 1 (spelling.keep k (omega arith)) (absolute k (omega arith)) refl refl code rest)))

  -- ECX comes back
  back_comes : (ecx v : ℕ) {e : ℕ} (log : Log) → ecx < 2 ^ 32 → newest log 0 ≡ Some ecx → may_all may log ≡ true → Code g e ((0x8B ∷ 0x0D ∷ word p) ∷ [])
      → Comes g 1 (core_with r v) e log (on g (core_with r ecx) (e + 6) log)
  unfolding round got_src got_at word
  back_comes ecx v log low kept ok code =
      load g p ecx (spelling.take p (omega arith)) (absolute p (omega arith)) (written g 0 ecx kept low refl ok) ok code (λ code. done g)

  -- where the low word does not wrap
  pub short_comes : (ecx lo : ℕ) {e : ℕ} → ecx < 2 ^ 32 → lo < 2 ^ 32 → bytes_at s.memory k 4 ≡ word lo → (raised lo == 0) ≡ false → Code g e (counter_parts p k)
      → Comes g 7 (core_with r ecx) e [] (on g (core_with r ecx) (e + 40 + 6) (low_log ecx lo))
  unfolding round word
  short_comes ecx lo {e} small low there more code =
      let behind : Code g (e + 40) ((0x8B ∷ 0x0D ∷ word p) ∷ []) = code_after g e (front p k) ((0x8B ∷ 0x0D ∷ word p) ∷ []) code in
      low_comes ecx lo low there code (λ code.
      left g spelling.to_high more refl code (λ code.
      jump g (e + 40) spelling.over_high (omega (arith, behind.stands.low)) refl code
      (back_comes ecx (raised lo) (low_log ecx lo) small refl refl behind)))
    where
      front : ℕ → ℕ → List (List ℕ)
      front p k = (0x89 ∷ 0x0D ∷ word p) ∷ (0x8B ∷ 0x0D ∷ word k) ∷ (0x8D ∷ 0x49 ∷ 0x01 ∷ []) ∷ (0x89 ∷ 0x0D ∷ word k) ∷ (0xE3 ∷ 0x02 ∷ []) ∷ (0xEB ∷ 0x0F ∷ [])
          ∷ (0x8B ∷ 0x0D ∷ word (k + 4)) ∷ (0x8D ∷ 0x49 ∷ 0x01 ∷ []) ∷ (0x89 ∷ 0x0D ∷ word (k + 4)) ∷ []

  -- where it wraps, the high word is raised too
  pub long_comes : (ecx lo hi : ℕ) {e : ℕ} → ecx < 2 ^ 32 → lo < 2 ^ 32 → hi < 2 ^ 32 → bytes_at s.memory k 4 ≡ word lo → bytes_at s.memory (k + 4) 4 ≡ word hi → (raised lo == 0) ≡ true → Code g e (counter_parts p k)
      → Comes g 9 (core_with r ecx) e [] (on g (core_with r ecx) (e + 25 + 6 + 3 + 6 + 6) (high_log ecx lo hi))
  unfolding round got_src got_at word
  long_comes ecx lo hi {e} small low high there above none code =
      let next : Code g (e + 25) ((0x8B ∷ 0x0D ∷ word (k + 4)) ∷ (0x8D ∷ 0x49 ∷ 0x01 ∷ []) ∷ (0x89 ∷ 0x0D ∷ word (k + 4)) ∷ (0x8B ∷ 0x0D ∷ word p) ∷ []) =
      code_after g e ((0x89 ∷ 0x0D ∷ word p) ∷ (0x8B ∷ 0x0D ∷ word k) ∷ (0x8D ∷ 0x49 ∷ 0x01 ∷ []) ∷ (0x89 ∷ 0x0D ∷ word k) ∷ (0xE3 ∷ 0x02 ∷ []) ∷ (0xEB ∷ 0x0F ∷ []) ∷ []) _ code in
      low_comes ecx lo low there code (λ code.
      looped g (e + 25) spelling.to_high none (omega (arith, next.stands.low)) refl code
      (load g (k + 4) hi (spelling.take (k + 4) (omega arith)) (absolute (k + 4) (omega arith)) (unwritten g 2 hi refl above high refl refl) refl next (λ code.
      quiet g spelling.raise refl (ap (λ (n : ℕ). Ends (core_with r n) None false) (raised_is hi)) refl code (λ code.
      store g 2 (spelling.keep (k + 4) (omega arith)) (absolute (k + 4) (omega arith)) refl refl code (λ code.
      back_comes ecx (raised hi) (high_log ecx lo hi) small refl refl code)))))
