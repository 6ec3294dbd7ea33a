-- A symbolic run of the stub, one line a step.
use Rattle.std.proofs.Common.{◌≡◌, ℕ, suc, ◌⊎◌, inl, inr, not, ◌+◌, ◌-◌, ◌*◌, ◌/◌, ◌%◌, ◌^◌, ◌<◌, ◌≤◌, Bool, true, false, ◌&&◌, ◌||◌, ◌==◌, List, [], ◌∷◌, ◌++◌, length, Option, Some, None, if◌then◌else◌, nat_le, nat_lt, refl, sym, ap, ◌∙◌, subst, arith}
use Rattle.mv_base.specs.Bytes.{word}
use Rattle.mv_base.specs.Memory.{within, bytes_at}
use Rattle.mv_base.specs.Table.{run_of, entry_or}
use Rattle.std.specs.List.{AllByRecursion}
use Rattle.std.proofs.lemmas.Bool.{cases_lt, lt-ltb, le-ltb, le-leb, lt-leb, leb-true, and_from, and_left, and_right, and_parts}
use Rattle.std.proofs.lemmas.Option.{none-some, same_Some}
use Rattle.mv_base.specs.declared.range.RunPlace.{RunPlace}
use Rattle.x86_insn.specs.declared.flags.Flags.{Flags}
use Rattle.x86_insn.specs.declared.registers.Core.{Core}
use Rattle.x86_insn.specs.declared.ask.Ask.TheVariants.{Ends}
use Rattle.x86_insn.specs.declared.insn.Width.TheVariants.{D}
use Rattle.x86_insn.specs.State.{State}
use Rattle.x86_insn.specs.Flags.{flag_image}
use Rattle.x86_insn.specs.Round.{round}
use Rattle.x86_insn.specs.Ask.{got_at, got_rm, got_src}
use Rattle.x86_insn.specs.declared.insn.AluOp.TheVariants.{And, Sub}
use Rattle.x86_insn.specs.declared.insn.Cond.TheVariants.{Ne}
use Rattle.x86_insn.specs.Conditions.{holds}
use Rattle.x86_insn.specs.Values.{difference_value, alu_flags, test_flags}
use Rattle.std.specs.Int.Bits.{bit_and, and_self}
use Rattle.std.proofs.lemmas.Nat.Bits.{and_high}
use Rattle.std.specs.Prelude.{pos, ◌+ℤ◌, ◌-ℤ◌, unsigned_abs}
use Rattle.std.proofs.lemmas.Int.{ints, int_rem_euclid_is}
use Rattle.step_laws.specs.laws.Logs.{Log, newest, may_all, HasPlaces}
use Rattle.step_laws.specs.laws.PrivateWords.{word_place}
use Rattle.step_laws.specs.laws.NearJump.{near_jump}
use Rattle.step_laws.specs.laws.Symbolic.{Setting, Code, code_after, Comes, Word, on, core_of, absolute, written, unwritten, quiet, push, load, store, pop, pop_flags, jump, taken, passed, via, done}
use Rattle.lookup_stub.specs.Stub.{head, search, searches, choose, turn_page, finish}
use Rattle.lookup_stub.specs.Finding.{is_scratch, number_in}
use Rattle.lookup_stub.specs.laws.Spellings as spelling

-- the words that the stub writes
abbrev pub may : ℕ → Bool
may j = (nat_le 1 j && nat_le j 2) || (nat_le 11 j && nat_le j 15)

-- registers and flags, and GS
pub record Kept : Type 0 where
  pub eax : ℕ
  pub ecx : ℕ
  pub edx : ℕ
  pub ebx : ℕ
  pub esp : ℕ
  pub ebp : ℕ
  pub esi : ℕ
  pub edi : ℕ
  pub flags : Flags
  pub gs : ℕ
  pub gs_base : Option ℕ

-- the core at the first byte, and one with other values in EAX, ECX, EDX and ESP, and other flags
abbrev pub first_core : Kept → Core
first_core k = core_of k.eax k.ecx k.edx k.ebx k.esp k.ebp k.esi k.edi k.flags k.gs k.gs_base

abbrev pub core_with : Kept → ℕ → ℕ → ℕ → ℕ → Flags → Core
core_with k eax ecx edx esp f = core_of eax ecx edx k.ebx esp k.ebp k.esi k.edi f k.gs k.gs_base

-- what the head writes
abbrev pub kept_log : Kept → Log
kept_log k = (12, k.edx) ∷ (13, k.ecx) ∷ (14, k.eax) ∷ (15, flag_image k.flags) ∷ (2, k.esp) ∷ []

small : (n : ℕ) → n < 2 ^ 32 → n % 2 ^ 32 ≡ n
small n low = omega arith

-- ---- the offset of an address above a run's first one

abbrev pub offset : ℕ → ℕ → ℕ
offset a lo = (a + 2 ^ 32 - lo) % 2 ^ 32

-- as SUB gives it
offset_is : (a lo : ℕ) → a < 2 ^ 32 → lo < 2 ^ 32 → difference_value D a (lo % 2 ^ 32) 0 ≡ offset a lo
offset_is a lo low fits =
    let moved : pos a -ℤ pos lo -ℤ pos 0 +ℤ pos (1 * 2 ^ 32) ≡ pos (a + 2 ^ 32 - lo) = omega (arith, ints) in
    ap (λ (n : ℕ). difference_value D a n 0) (small lo fits) ∙ ap unsigned_abs (int_rem_euclid_is (pos a -ℤ pos lo -ℤ pos 0) (pos (2 ^ 32)) (2 ^ 32) 1 (a + 2 ^ 32 - lo) (omega arith) refl moved)

-- a run lies below 2^32, and its directory too
pub record IsLow (r : RunPlace) : Type 0 where
  pub end : r.lo + r.len < 2 ^ 32
  pub dir : r.dir < 2 ^ 32

-- it tells whether the address is in the run
compared : (a lo len : ℕ) → a < 2 ^ 32 → lo + len < 2 ^ 32 → nat_lt (offset a lo) (len % 2 ^ 32 + 0) ≡ within lo len a
compared a lo len low end = go (cases_lt a lo) (cases_lt a (lo + len))
  where
    go : (a < lo) ⊎ (lo ≤ a) → (a < lo + len) ⊎ (lo + len ≤ a) → nat_lt (offset a lo) (len % 2 ^ 32 + 0) ≡ within lo len a
    go (inl p) q = le-ltb (offset a lo) (len % 2 ^ 32 + 0) (omega arith) ∙ sym (and_left (nat_le lo a) (nat_lt a (lo + len)) (lt-leb lo a p))
    go (inr p) (inl q) = lt-ltb (offset a lo) (len % 2 ^ 32 + 0) (omega arith) ∙ sym (and_from (nat_le lo a) (nat_lt a (lo + len)) (le-leb lo a p) (lt-ltb a (lo + len) q))
    go (inr p) (inr q) = le-ltb (offset a lo) (len % 2 ^ 32 + 0) (omega arith) ∙ sym (and_right (nat_le lo a) (nat_lt a (lo + len)) (le-ltb a (lo + len) q))

-- and is how far it is above the first one, where it is
offset_in : (a lo len : ℕ) → a < 2 ^ 32 → within lo len a ≡ true → offset a lo ≡ a - lo
offset_in a lo len low here = let above = leb-true lo a (and_parts (nat_le lo a) (nat_lt a (lo + len)) here).0 in omega arith

-- an address in no run is not in the first
not_here : (r : RunPlace) (rs : List RunPlace) (a : ℕ) → run_of (r ∷ rs) a ≡ None → (within r.lo r.len a ≡ false) × (run_of rs a ≡ None)
not_here r rs a e = go (within r.lo r.len a) refl e
  where
    go : (b : Bool) → within r.lo r.len a ≡ b → (if b then Some r else run_of rs a) ≡ None → (within r.lo r.len a ≡ false) × (run_of rs a ≡ None)
    go true h e = absurd (none-some r (sym e))
    go false h e = (h, e)

-- ---- what the end of the stub needs

-- registers are words
pub record IsSmall (k : Kept) : Type 0 where
  pub eax : k.eax < 2 ^ 32
  pub ecx : k.ecx < 2 ^ 32
  pub edx : k.edx < 2 ^ 32
  pub esp : k.esp < 2 ^ 32

-- the log has what was kept
pub record Remembers (k : Kept) (log : Log) : Type 0 where
  pub ok : may_all may log ≡ true
  pub edx : newest log 12 ≡ Some k.edx
  pub ecx : newest log 13 ≡ Some k.ecx
  pub eax : newest log 14 ≡ Some k.eax
  pub flags : newest log 15 ≡ Some (flag_image k.flags)
  pub esp : newest log 2 ≡ Some k.esp

-- CMOVNE after TEST of the entry with itself
choice : (k : Kept) (a v edx esp : ℕ) (f : Flags) → f.zf ≡ (bit_and v v == 0) → (if holds Ne f then core_with k v v edx esp f else core_with k a v edx esp f) ≡ core_with k (entry_or v a) v edx esp f
choice k a v edx esp f is = ap (λ (b : Bool). if not b then core_with k v v edx esp f else core_with k a v edx esp f) (is ∙ ap (λ (n : ℕ). n == 0) (and_self v)) ∙ go (v == 0)
  where
    go : (b : Bool) → (if not b then core_with k v v edx esp f else core_with k a v edx esp f) ≡ core_with k (if b then a else v) v edx esp f
    go true = refl
    go false = refl

-- the mask of a place in a page
masked : (i : ℕ) → bit_and i (0x3FF % 2 ^ 32) ≡ i % 1024
masked i = let bits = and_high i 10 0 in omega (arith, bits)

module _ (s : State) (p : ℕ) (room : p + 64 < 2 ^ 32) (places : HasPlaces (word_place p) may (is_scratch p) s.memory) (k : Kept) where
  abbrev pub g : Setting
  g = record { start = s; at = word_place p; may = may; scratch = is_scratch p; places = places }

  pub head_comes : (a : ℕ) {n e : ℕ} {t : State} {xs : List (List ℕ)} → a < 2 ^ 32 → bytes_at s.memory (p + 4) 4 ≡ word a → Code g e (head p ++ xs)
      → ((e' : ℕ) → e' ≡ e + 20 → Code g e' xs → Comes g n (core_with k a k.ecx k.edx (p + 48) k.flags) e' (kept_log k) t)
      → Comes g (suc (suc (suc (suc (suc (suc (suc n))))))) (first_core k) e [] t
  unfolding round got_src got_at word
  head_comes a low target code rest =
      store g 2 (spelling.keep_esp (p + 8) (omega arith)) (absolute (p + 8) (omega arith)) refl refl code (λ code.
      quiet g (spelling.own_stack (p + 64) (omega arith)) refl (ap (λ (n : ℕ). Ends (core_with k k.eax k.ecx k.edx n k.flags) None false) (small (p + 64) room)) refl code (λ code.
      push g 15 (flag_image k.flags) spelling.push_flags refl refl (omega arith) refl refl code (λ code.
      push g 14 k.eax spelling.push_eax refl refl (omega arith) refl refl code (λ code.
      push g 13 k.ecx spelling.push_ecx refl refl (omega arith) refl refl code (λ code.
      push g 12 k.edx spelling.push_edx refl refl (omega arith) refl refl code (λ code.
      load g (p + 4) a (spelling.load_target (p + 4) (omega arith)) (absolute (p + 4) (omega arith)) (unwritten g 1 a refl target low refl refl) refl code
      (rest _ (omega arith))))))))

  -- ---- the test of one run

  -- its first three instructions, which tell by CF whether the address is in the run
  test_comes : (r : RunPlace) (a : ℕ) {n e ecx : ℕ} {f : Flags} {t : State} {xs : List (List ℕ)} → a < 2 ^ 32 → r.lo + r.len < 2 ^ 32
      → Code g e ((0x89 ∷ 0xC1 ∷ []) ∷ (0x81 ∷ 0xE9 ∷ word r.lo) ∷ (0x81 ∷ 0xF9 ∷ word r.len) ∷ xs)
      → ((f' : Flags) → f'.cf ≡ within r.lo r.len a → Code g (e + 2 + 6 + 6) xs → Comes g n (core_with k a (offset a r.lo) k.edx (p + 48) f') (e + 2 + 6 + 6) (kept_log k) t)
      → Comes g (suc (suc (suc n))) (core_with k a ecx k.edx (p + 48) f) e (kept_log k) t
  unfolding round got_rm got_src word
  test_comes r a {f = f} low fits code rest =
      quiet g spelling.copy_target refl refl refl code (λ code.
      quiet g (spelling.subtract_lo r.lo (omega arith)) refl (ap (λ (n : ℕ). Ends (core_with k a n k.edx (p + 48) (alu_flags Sub D a (r.lo % 2 ^ 32) f)) None false) (offset_is a r.lo low (omega arith))) refl code (λ code.
      quiet g (spelling.compare_len r.len (omega arith)) refl refl refl code (λ code.
      rest _ (compared a r.lo r.len low fits) code)))

  -- ---- the tests of all runs

  -- an address in none of them passes them all
  pub miss_comes : (rs : List RunPlace) (a : ℕ) {n e ecx : ℕ} {f : Flags} {t : State} {xs : List (List ℕ)} → a < 2 ^ 32 → AllByRecursion IsLow rs → run_of rs a ≡ None
      → Code g e (searches rs ++ xs) → ((ecx : ℕ) (f : Flags) (e' : ℕ) → e' ≡ e + 26 * length rs → Code g e' xs → Comes g n (core_with k a ecx k.edx (p + 48) f) e' (kept_log k) t)
      → Comes g (4 * length rs + n) (core_with k a ecx k.edx (p + 48) f) e (kept_log k) t
  unfolding word
  miss_comes [] a {n} {e} {ecx} {f} {t} low runs none code rest =
      let zero_more : n ≡ 4 * 0 + n = omega arith in
      subst (λ n. Comes g n (core_with k a ecx k.edx (p + 48) f) e (kept_log k) t) zero_more (rest ecx f e (omega arith) code)
  miss_comes (r ∷ rs) a {n} {e} {ecx} {f} {t} {xs} low runs none code rest =
      let out = not_here r rs a none in
      let next : Code g (e + 26) (searches rs ++ xs) = code_after g e (search r (length rs)) (searches rs ++ xs) code in
      let four : suc (suc (suc (suc (4 * length rs + n)))) ≡ 4 * suc (length rs) + n = omega arith in
      subst (λ n. Comes g n (core_with k a ecx k.edx (p + 48) f) e (kept_log k) t) four
      (test_comes r a low runs.0.end code (λ f' cf code.
      taken g (e + 26) spelling.next_run (ap not (cf ∙ out.0)) (omega (arith, next.stands.low)) refl code
      (miss_comes rs a low runs.1 out.1 next (λ ecx f e' there code. rest ecx f e' (omega arith) code))))

  -- an address in one of them goes to the tail from the first that has it
  pub hit_comes : (rs : List RunPlace) (r : RunPlace) (to a : ℕ) {n e ecx : ℕ} {f : Flags} {t : State} (xs : List (List ℕ)) → a < 2 ^ 32 → AllByRecursion IsLow rs
      → run_of rs a ≡ Some r → e + 26 * length rs + 2 ≡ to → to < 2 ^ 32 → Code g e (searches rs ++ xs) → ((f : Flags) → Comes g n (core_with k a (a - r.lo) r.dir (p + 48) f) to (kept_log k) t)
      → Comes g (4 * number_in rs a + 2 + n) (core_with k a ecx k.edx (p + 48) f) e (kept_log k) t
  unfolding word round got_src
  hit_comes [] r to a xs low runs some there inside code rest = absurd (none-some r some)
  hit_comes (q ∷ rs) r to a {n} {e} {ecx} {f} {t} xs low runs some there inside code rest =
      let next : Code g (e + 26) (searches rs ++ xs) = code_after g e (search q (length rs)) (searches rs ++ xs) code in
      go next (λ f' some. hit_comes rs r to a xs low runs.1 some (omega arith) inside next rest) (within q.lo q.len a) refl some
    where
      go : Code g (e + 26) (searches rs ++ xs) → ((f' : Flags) → run_of rs a ≡ Some r → Comes g (4 * number_in rs a + 2 + n) (core_with k a (offset a q.lo) k.edx (p + 48) f') (e + 26) (kept_log k) t)
          → (b : Bool) → within q.lo q.len a ≡ b → (if b then Some q else run_of rs a) ≡ Some r
          → Comes g (4 * (if within q.lo q.len a then 1 else 1 + number_in rs a) + 2 + n) (core_with k a ecx k.edx (p + 48) f) e (kept_log k) t
      go next rec true here some =
          let same = same_Some q r some in
          let six : suc (suc (suc (suc (suc (suc n))))) ≡ 4 * 1 + 2 + n = omega arith in
          let steps = six ∙ ap (λ (b : Bool). 4 * (if b then 1 else 1 + number_in rs a) + 2 + n) (sym here) in
          subst (λ n. Comes g n (core_with k a ecx k.edx (p + 48) f) e (kept_log k) t) steps
          (test_comes q a low runs.0.end code (λ f' cf code.
          passed g spelling.next_run (ap not (cf ∙ here)) refl code (λ code.
          quiet g (spelling.load_dir q.dir runs.0.dir) refl
          (λ i. Ends (core_with k a (offset_in a q.lo q.len low here i) (small q.dir runs.0.dir i) (p + 48) f') None false) refl code (λ code.
          jump g to (near_jump (26 * length rs + 2) (omega arith)) (omega arith) refl code
          (subst (λ (d : RunPlace). Comes g n (core_with k a (a - d.lo) d.dir (p + 48) f') to (kept_log k) t) (sym same) (rest f'))))))
      go next rec false out some =
          let four : suc (suc (suc (suc (4 * number_in rs a + 2 + n)))) ≡ 4 * (1 + number_in rs a) + 2 + n = omega arith in
          let steps = four ∙ ap (λ (b : Bool). 4 * (if b then 1 else 1 + number_in rs a) + 2 + n) (sym out) in
          subst (λ n. Comes g n (core_with k a ecx k.edx (p + 48) f) e (kept_log k) t) steps
          (test_comes q a low runs.0.end code (λ f' cf code.
          taken g (e + 26) spelling.next_run (ap not (cf ∙ out)) (omega (arith, next.stands.low)) refl code
          (rec f' some)))

  -- ---- the end of the stub

  -- the registers and flags come back, and the stub goes to the address in EAX
  pub finish_comes : (to : ℕ) {e ecx edx : ℕ} {f : Flags} (log : Log) → to < 2 ^ 32 → IsSmall k → Remembers k log → Code g e (finish p)
      → Comes g 7 (core_with k to ecx edx (p + 48) f) e log (on g (first_core k) to ((1, to) ∷ log))
  unfolding round got_src word
  finish_comes to log low fits has code =
      let ok : may_all may ((1, to) ∷ log) ≡ true = has.ok in
      store g 1 (spelling.keep_target (p + 4) (omega arith)) (absolute (p + 4) (omega arith)) refl has.ok code (λ code.
      pop g 12 13 k.edx spelling.pop_edx refl (omega arith) (written g 12 k.edx has.edx fits.edx refl ok) ok code (λ code.
      pop g 13 14 k.ecx spelling.pop_ecx refl (omega arith) (written g 13 k.ecx has.ecx fits.ecx refl ok) ok code (λ code.
      pop g 14 15 k.eax spelling.pop_eax refl (omega arith) (written g 14 k.eax has.eax fits.eax refl ok) ok code (λ code.
      pop_flags g 15 16 k.flags spelling.pop_flags refl (omega arith) has.flags refl ok code (λ code.
      load g (p + 8) k.esp (spelling.load_esp (p + 8) (omega arith)) (absolute (p + 8) (omega arith)) (written g 2 k.esp has.esp fits.esp refl ok) ok code (λ code.
      via g (p + 4) to (spelling.jump_target (p + 4) (omega arith)) (absolute (p + 4) (omega arith)) (written g 1 to refl low refl ok) ok code
      (done g)))))))

  -- ---- the tail

  -- an entry that isn't 0 takes the address's place
  pub choose_comes : (a at v : ℕ) {n e ecx edx : ℕ} {f : Flags} {t : State} {log : Log} {xs : List (List ℕ)} → may_all may log ≡ true → (0 + edx + ecx * 4 + 0) % 2 ^ 32 ≡ at → Word g log at v
      → Code g e (choose ++ xs) → ((e' : ℕ) (f : Flags) → e' ≡ e + 8 → Code g e' xs → Comes g n (core_with k (entry_or v a) v edx (p + 48) f) e' log t)
      → Comes g (suc (suc (suc n))) (core_with k a ecx edx (p + 48) f) e log t
  unfolding round got_src got_rm got_at
  choose_comes a at v {edx = edx} {f = f} ok place w code rest =
      load g at v spelling.load_entry place w ok code (λ code.
      quiet g spelling.test_entry refl refl ok code (λ code.
      quiet g spelling.choose_entry refl (ap (λ c. Ends c None false) (choice k a v edx (p + 48) (test_flags D v v f) refl)) ok code (λ code.
      rest _ _ (omega arith) code)))

  -- the place in a page
  mask_comes : (a i page : ℕ) {n e : ℕ} {f : Flags} {t : State} {xs : List (List ℕ)} → Code g e ((0x81 ∷ 0xE1 ∷ 0xFF ∷ 0x03 ∷ 0 ∷ 0 ∷ []) ∷ xs)
      → ((f : Flags) → Code g (e + 6) xs → Comes g n (core_with k a (i % 1024) page (p + 48) f) (e + 6) ((11, i) ∷ kept_log k) t)
      → Comes g (suc n) (core_with k a i page (p + 48) f) e ((11, i) ∷ kept_log k) t
  unfolding round got_src got_rm
  mask_comes a i page {f = f} code rest =
      quiet g spelling.mask_offset refl (ap (λ (n : ℕ). Ends (core_with k a n page (p + 48) (alu_flags And D i (0x3FF % 2 ^ 32) f)) None false) (masked i)) refl code (λ code.
      rest _ code)

  -- by way of a page: the place in the directory, then that in the page
  pub page_comes : (a i at page : ℕ) {n e dir : ℕ} {f : Flags} {t : State} {xs : List (List ℕ)} → i < 2 ^ 32 → (0 + dir + i / 1024 * 4 + 0) % 2 ^ 32 ≡ at → Word g ((11, i) ∷ kept_log k) at page
      → Code g e (turn_page ++ xs) → ((e' : ℕ) (f : Flags) → e' ≡ e + 14 → Code g e' xs → Comes g n (core_with k a (i % 1024) page (p + 48) f) e' ((11, i) ∷ kept_log k) t)
      → Comes g (suc (suc (suc (suc (suc n))))) (core_with k a i dir (p + 48) f) e (kept_log k) t
  unfolding round got_src got_rm got_at
  page_comes a i at page {dir = dir} low place w code rest =
      push g 11 i spelling.push_ecx refl refl (omega arith) refl refl code (λ code.
      quiet g spelling.shift_offset refl refl refl code (λ code.
      load g at page spelling.load_page place w refl code (λ code.
      pop g 11 12 i spelling.pop_ecx refl (omega arith) (written g 11 i refl low refl refl) refl code (λ code.
      mask_comes a i page code (λ f code. rest _ f (omega arith) code)))))
