-- From its first byte, the stub finds the new address.
use Rattle.std.proofs.Common.{◌≡◌, ℕ, suc, ◌⊎◌, inl, inr, ◌+◌, ◌-◌, ◌*◌, ◌/◌, ◌%◌, ◌^◌, ◌<◌, ◌≤◌, Bool, true, false, ◌&&◌, ◌==◌, List, [], ◌∷◌, ◌++◌, length, drop, Option, Some, None, if◌then◌else◌, nat_le, nat_lt, slice_index, refl, sym, subst, arith}
use Rattle.std.specs.List.{AllByRecursion}
use Rattle.std.proofs.lemmas.Bool.{both_ways, leb-true, ltb-true, le-leb, lt-ltb, and_from, and_parts, or_cases, or_left, or_right}
use Rattle.std.proofs.lemmas.List.{get_or-drop}
use Rattle.std.proofs.lemmas.Option.{none-some, same_Some}
use Rattle.byteorder.specs.Numbers.{little_from-lt}
use Rattle.mv_base.specs.Bytes.{AreBytes, word, word_at}
use Rattle.mv_base.specs.Memory.{Memory, within}
use Rattle.mv_base.specs.Table.{run_of, flat_word, page_at, paged_word, entry_or}
use Rattle.mv_base.specs.declared.range.RunPlace.{RunPlace}
use Rattle.x86_insn.specs.State.{State}
use Rattle.x86_insn.specs.declared.flags.Flags.{Flags}
use Rattle.step_laws.specs.Passes.{Passes}
use Rattle.step_laws.specs.Keeping.{KeepsRest}
use Rattle.step_laws.specs.Standing.{IsRoom}
use Rattle.step_laws.specs.laws.Logs.{Log, may_all, HasPlaces}
use Rattle.step_laws.specs.laws.PrivateWords.{word_place, word_places}
use Rattle.step_laws.specs.laws.Symbolic.{Setting, Code, code_after, code_rest, Comes, Word, held_word, on, keeps_rest, whole_core, from_start, jump}
use Rattle.lookup_stub.specs.Stub.{head, searches, choose, turn_page, tail, finish, ending, stub}
use Rattle.lookup_stub.specs.Finding.{private_len, is_scratch, IsIn, AreIn, IsPlaced, number_in, steps_by, lookup_steps, new_address, IsLookup, Finds}
use Rattle.lookup_stub.specs.laws.Spellings as spelling
use Rattle.lookup_stub.specs.laws.StubBytes.{searches_len}
use Rattle.lookup_stub.specs.laws.Run.{may, Kept, IsSmall, Remembers, IsLow, first_core, core_with, kept_log, g, head_comes, miss_comes, hit_comes, finish_comes, choose_comes, page_comes}

-- ---- what the stub writes

-- an address in a range is in a wider one
within_wider : (lo len lo' len' a : ℕ) → lo' ≤ lo → lo + len ≤ lo' + len' → within lo len a ≡ true → within lo' len' a ≡ true
within_wider lo len lo' len' a low high h =
    let w = and_parts (nat_le lo a) (nat_lt a (lo + len)) h in
    let above = leb-true lo a w.0 in
    let below = ltb-true a (lo + len) w.1 in
    and_from (nat_le lo' a) (nat_lt a (lo' + len')) (le-leb lo' a (omega arith)) (lt-ltb a (lo' + len') (omega arith))

scratch_private : (p a : ℕ) → is_scratch p a ≡ true → within p private_len a ≡ true
scratch_private p a h = go (or_cases (within (p + 4) 8 a) (within (p + 44) 20 a) h)
  where
    go : (within (p + 4) 8 a ≡ true) ⊎ (within (p + 44) 20 a ≡ true) → within p private_len a ≡ true
    go (inl e) = within_wider (p + 4) 8 p 64 a (omega arith) (omega arith) e
    go (inr e) = within_wider (p + 44) 20 p 64 a (omega arith) (omega arith) e

no_scratch : (p a : ℕ) → within p private_len a ≡ false → is_scratch p a ≡ false
no_scratch p a h = go (is_scratch p a) refl
  where
    go : (b : Bool) → is_scratch p a ≡ b → b ≡ false
    go false e = refl
    go true e = absurd (both_ways (within p private_len a) h (scratch_private p a e))

-- the words that may be written
may_places : (j : ℕ) → may j ≡ true → ((1 ≤ j) × (j ≤ 2)) ⊎ ((11 ≤ j) × (j ≤ 15))
may_places j h = go (or_cases (nat_le 1 j && nat_le j 2) (nat_le 11 j && nat_le j 15) h)
  where
    go : ((nat_le 1 j && nat_le j 2) ≡ true) ⊎ ((nat_le 11 j && nat_le j 15) ≡ true) → ((1 ≤ j) × (j ≤ 2)) ⊎ ((11 ≤ j) × (j ≤ 15))
    go (inl e) = let w = and_parts (nat_le 1 j) (nat_le j 2) e in inl (leb-true 1 j w.0, leb-true j 2 w.1)
    go (inr e) = let w = and_parts (nat_le 11 j) (nat_le j 15) e in inr (leb-true 11 j w.0, leb-true j 15 w.1)

in_range : (lo len a : ℕ) → lo ≤ a → a < lo + len → within lo len a ≡ true
in_range lo len a low high = and_from (nat_le lo a) (nat_lt a (lo + len)) (le-leb lo a low) (lt-ltb a (lo + len) high)

may_scratch : (p j b : ℕ) → may j ≡ true → b < 4 → is_scratch p (p + 4 * j + b) ≡ true
may_scratch p j b h l = go (may_places j h)
  where
    go : ((1 ≤ j) × (j ≤ 2)) ⊎ ((11 ≤ j) × (j ≤ 15)) → is_scratch p (p + 4 * j + b) ≡ true
    go (inl w) = let low = w.0 in let high = w.1 in or_left _ (within (p + 44) 20 (p + 4 * j + b)) (in_range (p + 4) 8 (p + 4 * j + b) (omega arith) (omega arith))
    go (inr w) = let low = w.0 in let high = w.1 in or_right (within (p + 4) 8 (p + 4 * j + b)) _ (in_range (p + 44) 20 (p + 4 * j + b) (omega arith) (omega arith))

may_few : (j : ℕ) → may j ≡ true → j < 16
may_few j h = go (may_places j h)
  where
    go : ((1 ≤ j) × (j ≤ 2)) ⊎ ((11 ≤ j) × (j ≤ 15)) → j < 16
    go (inl w) = let high = w.1 in omega arith
    go (inr w) = let high = w.1 in omega arith

places_of : (p : ℕ) (m : Memory) → ((a : ℕ) → 2 ^ 32 ≤ a → m a ≡ None) → IsRoom m p private_len → HasPlaces (word_place p) may (is_scratch p) m
places_of p m top room = word_places p 16 may (is_scratch p) m room may_few (may_scratch p) top

-- ---- the table

word_small : (bytes : List ℕ) (place : ℕ) → AreBytes bytes → word_at bytes place < 2 ^ 32
unfolding word_at
word_small bytes place h = little_from-lt 0 4 (drop place bytes) (λ k. let e = get_or-drop place bytes k 0 in let small = h (place + k) in omega arith)

-- the run that an address lies in
found_run : (P : RunPlace → Type 0) (rs : List RunPlace) (a : ℕ) (r : RunPlace) → AllByRecursion P rs → run_of rs a ≡ Some r → P r × (within r.lo r.len a ≡ true)
found_run P [] a r all e = absurd (none-some r e)
found_run P (q ∷ rs) a r all e = go (within q.lo q.len a) refl (found_run P rs a r all.1) e
  where
    go : (b : Bool) → within q.lo q.len a ≡ b → (run_of rs a ≡ Some r → P r × (within r.lo r.len a ≡ true)) → (if b then Some q else run_of rs a) ≡ Some r → P r × (within r.lo r.len a ≡ true)
    go true h rec e = let same = same_Some q r e in (subst P same all.0, subst (λ (d : RunPlace). within d.lo d.len a ≡ true) same h)
    go false h rec e = rec e

all_low : (form : ℕ) (table : List ℕ) (lo : ℕ) (rs : List RunPlace) → AllByRecursion (IsPlaced form table lo) rs → AllByRecursion IsLow rs
all_low form table lo [] h = tt
all_low form table lo (r ∷ rs) h = (record { end = h.0.low; dir = h.0.dir }, all_low form table lo rs h.1)

-- ---- the lookup

remembers : (k : Kept) → Remembers k (kept_log k)
remembers k = record { ok = refl; edx = refl; ecx = refl; eax = refl; flags = refl; esp = refl }

remembers_page : (k : Kept) (i : ℕ) → Remembers k ((11, i) ∷ kept_log k)
remembers_page k i = record { ok = refl; edx = refl; ecx = refl; eax = refl; flags = refl; esp = refl }

abbrev kept_of : State → Kept
kept_of s = record {
  eax = slice_index s.core.regs 0;
  ecx = slice_index s.core.regs 1;
  edx = slice_index s.core.regs 2;
  ebx = slice_index s.core.regs 3;
  esp = slice_index s.core.regs 4;
  ebp = slice_index s.core.regs 5;
  esi = slice_index s.core.regs 6;
  edi = slice_index s.core.regs 7;
  flags = s.core.flags;
  gs = s.core.gs;
  gs_base = s.core.gs_base;
}

module _ (form : ℕ) (runs : List RunPlace) (p : ℕ) (table : List ℕ) (lo at a : ℕ) (s : State) (h : IsLookup form runs p table lo at a s) where
  abbrev k : Kept
  k = kept_of s

  places : HasPlaces (word_place p) may (is_scratch p) s.memory
  places = places_of p s.memory h.top h.room

  abbrev run : Setting
  run = g s p h.room.low places k

  small : IsSmall k
  small = record { eax = h.core.fits 0; ecx = h.core.fits 1; edx = h.core.fits 2; esp = h.core.fits 4 }

  low : AllByRecursion IsLow runs
  low = all_low form table lo runs h.placed

  code : Code run at (head p ++ (searches runs ++ ending form p))
  unfolding stub
  code = record { stands = h.code; apart = λ i l. no_scratch p (at + i) (h.code_apart i l) }

  -- a run that comes to its end
  finds_by : (n steps to : ℕ) (log : Log) → n ≡ steps → may_all may log ≡ true → Comes run n (first_core k) at [] (on run (first_core k) to log) → Finds p steps to s
  finds_by n steps to log same ok comes = record {
    last = on run (first_core k) to log;
    passes = subst (λ n. Passes (KeepsRest (is_scratch p) s) n s (on run (first_core k) to log)) same (from_start run n (first_core k) at (on run (first_core k) to log) (whole_core s.core h.core) h.place comes);
    keeps = keeps_rest run (first_core k) to log ok;
    core = whole_core s.core h.core;
    place = refl;
  }

  -- ---- an address in no run

  over_comes : (b : Bool) {e ecx : ℕ} {f : Flags} → Code run e ((if b then 0xEB ∷ 0x08 ∷ [] else 0xEB ∷ 0x16 ∷ []) ∷ ((if b then choose else turn_page ++ choose) ++ finish p))
      → Comes run 8 (core_with k a ecx k.edx (p + 48) f) e (kept_log k) (on run (first_core k) a ((1, a) ∷ kept_log k))
  over_comes true {e} code =
      let behind : Code run (e + 2 + 8) (finish p) = code_after run (e + 2) choose (finish p) (code_rest run code) in
      jump run (e + 2 + 8) spelling.over_flat (omega (arith, behind.stands.low)) refl code
      (finish_comes s p h.room.low places k a (kept_log k) h.fits small (remembers k) behind)
  over_comes false {e} code =
      let behind : Code run (e + 2 + 22) (finish p) = code_after run (e + 2) (turn_page ++ choose) (finish p) (code_rest run code) in
      jump run (e + 2 + 22) spelling.over_paged (omega (arith, behind.stands.low)) refl code
      (finish_comes s p h.room.low places k a (kept_log k) h.fits small (remembers k) behind)

  finds_none : run_of runs a ≡ None → Finds p (15 + 4 * length runs) a s
  finds_none none =
      let steps : suc (suc (suc (suc (suc (suc (suc (4 * length runs + 8))))))) ≡ 15 + 4 * length runs = omega arith in
      finds_by _ (15 + 4 * length runs) a ((1, a) ∷ kept_log k) steps refl
      (head_comes s p h.room.low places k a h.fits h.target code (λ e there code.
      miss_comes s p h.room.low places k runs a h.fits low none code (λ ecx f e there code.
      over_comes (form == 1) code)))

  -- ---- an address in a run

  word_of : {log : Log} (base above : ℕ) → may_all may log ≡ true → IsIn table lo base above → Word run log (base + above) (word_at table (base - lo + above))
  word_of {log} base above ok w =
      let place : base + above - lo ≡ base - lo + above = omega (arith, w.low) in
      subst (λ (i : ℕ). Word run log (base + above) (word_at table i)) place
      (held_word run lo table (base + above) h.words (λ i l. no_scratch p (lo + i) (h.table_apart i l)) (omega (arith, w.low)) (omega (arith, w.high)) ok)

  -- an address of a word in the table is below 2^32
  scaled : (base i : ℕ) → IsIn table lo base (4 * i) → (0 + base + i * 4 + 0) % 2 ^ 32 ≡ base + 4 * i
  scaled base i w = omega (arith, w.high, h.words.low)

  chosen_small : (v : ℕ) → v < 2 ^ 32 → entry_or v a < 2 ^ 32
  chosen_small v fits = go (v == 0)
    where
      go : (b : Bool) → (if b then a else v) < 2 ^ 32
      go true = h.fits
      go false = fits

  entry_small : (place : ℕ) → word_at table place < 2 ^ 32
  entry_small place = word_small table place h.bytes

  abbrev tail_log : Bool → ℕ → Log
  tail_log true i = kept_log k
  tail_log false i = (11, i) ∷ kept_log k

  tail_comes : (b : Bool) (r : RunPlace) {e : ℕ} {f : Flags} → AreIn b table lo r (a - r.lo) → Code run e ((if b then choose else turn_page ++ choose) ++ finish p)
      → let to = entry_or (if b then flat_word table lo a (Some r) else paged_word table lo a (Some r)) a in
      Comes run (if b then 10 else 15) (core_with k a (a - r.lo) r.dir (p + 48) f) e (kept_log k) (on run (first_core k) to ((1, to) ∷ tail_log b (a - r.lo)))
  tail_comes true r w code =
      let i = a - r.lo in
      choose_comes s p h.room.low places k a (r.dir + 4 * i) (word_at table (r.dir - lo + 4 * i)) refl (scaled r.dir i w) (word_of r.dir (4 * i) refl w) code (λ e f there code.
      finish_comes s p h.room.low places k _ (kept_log k) (chosen_small _ (entry_small _)) small (remembers k) code)
  tail_comes false r w code =
      let i = a - r.lo in
      let page = page_at table lo r.dir i in
      page_comes s p h.room.low places k a i (r.dir + 4 * (i / 1024)) page (omega (arith, h.fits)) (scaled r.dir (i / 1024) w.0) (word_of r.dir (4 * (i / 1024)) refl w.0) code (λ e f there code.
      choose_comes s p h.room.low places k a (page + 4 * (i % 1024)) (word_at table (page - lo + 4 * (i % 1024))) refl (scaled page (i % 1024) w.1) (word_of page (4 * (i % 1024)) refl w.1) code (λ e f there code.
      finish_comes s p h.room.low places k _ ((11, i) ∷ kept_log k) (chosen_small _ (entry_small _)) small (remembers_page k i) code))

  finds_some : (r : RunPlace) → run_of runs a ≡ Some r → (b : Bool) → AreIn b table lo r (a - r.lo) → Code run (at + 20 + 26 * length runs + 2) ((if b then choose else turn_page ++ choose) ++ finish p)
      → Finds p ((if b then 19 else 24) + 4 * number_in runs a) (entry_or (if b then flat_word table lo a (Some r) else paged_word table lo a (Some r)) a) s
  finds_some r some b w rest =
      finds_by _ _ _ ((1, entry_or (if b then flat_word table lo a (Some r) else paged_word table lo a (Some r)) a) ∷ tail_log b (a - r.lo)) (steps b) (ok b)
      (head_comes s p h.room.low places k a h.fits h.target code (λ e there code.
      hit_comes s p h.room.low places k runs r (at + 20 + 26 * length runs + 2) a (ending form p) h.fits low some (omega arith) (omega (arith, rest.stands.low)) code (λ f.
      tail_comes b r w rest)))
    where
      steps : (b : Bool) → suc (suc (suc (suc (suc (suc (suc (4 * number_in runs a + 2 + (if b then 10 else 15)))))))) ≡ (if b then 19 else 24) + 4 * number_in runs a
      steps true = omega arith
      steps false = omega arith

      ok : (b : Bool) → may_all may ((1, entry_or (if b then flat_word table lo a (Some r) else paged_word table lo a (Some r)) a) ∷ tail_log b (a - r.lo)) ≡ true
      ok true = refl
      ok false = refl

  tail_code : Code run (at + 20 + 26 * length runs + 2) (tail form ++ finish p)
  unfolding word
  tail_code =
      let behind : Code run (at + 20) (searches runs ++ ending form p) = code_after run at (head p) (searches runs ++ ending form p) code in
      let end = subst (λ (n : ℕ). Code run (at + 20 + n) (ending form p)) (searches_len runs) (code_after run (at + 20) (searches runs) (ending form p) behind) in
      over (form == 1) (code_rest run end)
    where
      over : (b : Bool) → Code run (at + 20 + 26 * length runs + length {A = ℕ} (if b then 0xEB ∷ 0x08 ∷ [] else 0xEB ∷ 0x16 ∷ [])) (tail form ++ finish p) → Code run (at + 20 + 26 * length runs + 2) (tail form ++ finish p)
      over true c = c
      over false c = c

  pub finds : Finds p (lookup_steps form runs a) (new_address form table lo runs a) s
  finds = go (run_of runs a) refl
    where
      none_in : (b : Bool) → entry_or (if b then 0 else 0) a ≡ a
      none_in true = refl
      none_in false = refl

      go : (o : Option RunPlace) → run_of runs a ≡ o → Finds p (steps_by form runs a o) (entry_or (if form == 1 then flat_word table lo a o else paged_word table lo a o) a) s
      go None e = subst (λ (to : ℕ). Finds p (15 + 4 * length runs) to s) (sym (none_in (form == 1))) (finds_none e)
      go (Some r) e =
          let w = found_run (IsPlaced form table lo) runs a r h.placed e in
          let in_run : a - r.lo < r.len = above r w.1 in
          finds_some r e (form == 1) (w.0.words (a - r.lo) in_run) tail_code
        where
          above : (r : RunPlace) → within r.lo r.len a ≡ true → a - r.lo < r.len
          above r e =
              let v = and_parts (nat_le r.lo a) (nat_lt a (r.lo + r.len)) e in
              let high = ltb-true a (r.lo + r.len) v.1 in
              let low = leb-true r.lo a v.0 in
              omega arith
