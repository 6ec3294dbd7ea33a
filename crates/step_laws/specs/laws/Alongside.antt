-- What reads, writes and effects do to a memory that stands beside another.
use Rattle.std.specs.Prelude.{◌≡◌, ℕ, ◌+◌, ◌-◌, ◌^◌, ◌<◌, ◌≤◌, Bool, true, false, not, ◌||◌, List, [], ◌∷◌, length, Option, Some, None, is_some, slice_index, nat_lt, if◌then◌else◌}
use Rattle.std.specs.List.{AllByRecursion}
use Rattle.std.specs.Option.{option_map}
use Rattle.std.proofs.Common.{refl, sym, ap, ap₂, ◌∙◌, subst₂, ⊎_elim, arith}
use Rattle.std.proofs.lemmas.Bool.{both_ways, and_from, lt-ltb, le-leb, cond-false, cases_Bool, ltb-true}
use Rattle.std.proofs.lemmas.Option.{none-some, same_Some}
use Rattle.mv_base.specs.Memory.{Cell, Memory, is_mapped, is_writable, is_executable, within, distance, with_byte, put, read_fault, write_fault, bytes_at}
use Rattle.mv_base.specs.Effects.{Mode, Effect, WriteAt, MapAt, UnmapAt, DescAt, effect_lo, effect_len, touches, IsEffect, is_write_mode, is_exec_mode, makes_code, applied, Refusal, Executable, first_touched, unmapped, unwritable, refused_access, refusal_of, Applied, AllApplied, RefusedAt, apply_next, apply_all, Descs, described, describe_next, describe_all}
use Rattle.step_laws.specs.Keeping.{marks}
use Rattle.step_laws.specs.Beside.{shown, Beside, IsClearEffect}
use Rattle.step_laws.specs.Meeting.{Area, Keeps}
use Rattle.step_laws.specs.laws.Putting.{marks_mapped, marks_executable}
use Rattle.step_laws.specs.laws.Cells.{may_write, may_execute, shown_mapped, shown_writable, IsClearFault, first_alike, first_same, bytes_alike}
use Rattle.step_laws.specs.laws.Coding.{IsLow, reached, within_parts, granted_idle, made_idle}

-- ---- changes

-- a change of each cell by its address: it shows the same of cells that show the same, makes nothing executable, leaves
-- added addresses alone, and makes no cell at or above 2^32
record IsClearChange (added : ℕ → Bool) (g : ℕ → Option Cell → Option Cell) : Type 0 where
  shows : (a : ℕ) (c d : Option Cell) → shown c ≡ shown d → shown (g a c) ≡ shown (g a d)
  idle : (a : ℕ) (c : Option Cell) → may_execute c ≡ false → may_execute (g a c) ≡ false
  apart : (a : ℕ) → added a ≡ true → (c : Option Cell) → g a c ≡ c
  low : (a : ℕ) (c : Option Cell) → is_some (g a c) ≡ true → is_some c ≡ false → a < 2 ^ 32

-- o below 2^32, and t, which came from a memory s and is o but for the area
pub record Alongside (area : Area) (s o t : Memory) : Type 0 where
  pub low : IsLow o
  pub beside : Beside area.added o t
  pub keeps : Keeps area s t

pub keeps_same : (area : Area) (s : Memory) → Keeps area s s
keeps_same area s = record { idle = λ a i h. h; marks = λ a i. refl; kept = λ a i j. refl }

pub keeps_on : (area : Area) (s t u : Memory) → Keeps area s t → Keeps area t u → Keeps area s u
keeps_on area s t u h k = record {
  idle = λ a i e. k.idle a i (h.idle a i e);
  marks = λ a i. k.marks a i ∙ h.marks a i;
  kept = λ a i j. k.kept a i j ∙ h.kept a i j;
}

changed_along : (area : Area) (g : ℕ → Option Cell → Option Cell) (s o t : Memory) → IsClearChange area.added g → Alongside area s o t → Alongside area s (λ a. g a (o a)) (λ a. g a (t a))
changed_along area g s o t h w = record {
  low = λ a m. low a m (is_mapped o a) refl;
  beside = record {
    outside = λ a i. h.shows a (t a) (o a) (w.beside.outside a i);
    free = λ a i. h.apart a i (o a) ∙ w.beside.free a i;
  };
  keeps = record {
    idle = λ a i e. h.idle a (t a) (w.keeps.idle a i e);
    marks = λ a i. ap marks (h.apart a i (t a)) ∙ w.keeps.marks a i;
    kept = λ a i j. h.apart a i (t a) ∙ w.keeps.kept a i j;
  };
}
  where
    low : (a : ℕ) → is_some (g a (o a)) ≡ true → (m : Bool) → is_mapped o a ≡ m → a < 2 ^ 32
    low a n true e = w.low a e
    low a n false e = h.low a (o a) n e

-- ---- bytes written

-- a cell after a write
byte_put : ℕ → List ℕ → ℕ → Option Cell → Option Cell
byte_put at bytes a c = if nat_lt (distance at a) (length bytes) then option_map (with_byte (slice_index bytes (distance at a))) c else c

put_is : (m : Memory) (at : ℕ) (bytes : List ℕ) → put m at bytes ≡ (λ a. byte_put at bytes a (m a))
unfolding put byte_put
put_is m at bytes = refl

put_apart : (at : ℕ) (bytes : List ℕ) (a : ℕ) (c : Option Cell) → nat_lt (distance at a) (length bytes) ≡ false → byte_put at bytes a c ≡ c
unfolding byte_put
put_apart at bytes a c e = cond-false _ _ _ e

put_shows : (at : ℕ) (bytes : List ℕ) (a : ℕ) (c d : Option Cell) → shown c ≡ shown d → shown (byte_put at bytes a c) ≡ shown (byte_put at bytes a d)
unfolding byte_put
put_shows at bytes a c d e = go (nat_lt (distance at a) (length bytes))
  where
    y : ℕ
    y = slice_index bytes (distance at a)

    read : (c : Option Cell) → shown (option_map (with_byte y) c) ≡ option_map (λ (s : ℕ × Bool). (y, s.1)) (shown c)
    read None = refl
    read (Some c) = refl

    go : (v : Bool) → shown (if v then option_map (with_byte y) c else c) ≡ shown (if v then option_map (with_byte y) d else d)
    go true = read c ∙ ap (option_map (λ (s : ℕ × Bool). (y, s.1))) e ∙ sym (read d)
    go false = e

byte_put_marks : (at : ℕ) (bytes : List ℕ) (a : ℕ) (c : Option Cell) → marks (byte_put at bytes a c) ≡ marks c
unfolding byte_put
byte_put_marks at bytes a c = go (nat_lt (distance at a) (length bytes)) c
  where
    go : (v : Bool) (c : Option Cell) → marks (if v then option_map (with_byte (slice_index bytes (distance at a))) c else c) ≡ marks c
    go true None = refl
    go true (Some c) = refl
    go false c = refl

-- a cell after a range is made anew, or taken away
abbrev renewed : Bool → Option Cell → Option Cell → Option Cell
renewed w new c = if w then new else c

map_cell : ℕ → ℕ → Mode → List ℕ → ℕ → Option Cell → Option Cell
map_cell lo len mode bytes a c = renewed (within lo len a) (Some (record { byte = slice_index bytes (a - lo); write = is_write_mode mode; exec = is_exec_mode mode })) c

unmap_cell : ℕ → ℕ → ℕ → Option Cell → Option Cell
unmap_cell lo len a c = renewed (within lo len a) None c

map_is : (m : Memory) (lo len : ℕ) (mode : Mode) (bytes : List ℕ) → applied m (MapAt lo len mode bytes) ≡ (λ a. map_cell lo len mode bytes a (m a))
unfolding applied map_cell
map_is m lo len mode bytes = refl

unmap_is : (m : Memory) (lo len : ℕ) → applied m (UnmapAt lo len) ≡ (λ a. unmap_cell lo len a (m a))
unfolding applied unmap_cell
unmap_is m lo len = refl

write_is : (m : Memory) (lo : ℕ) (bytes : List ℕ) → applied m (WriteAt lo bytes) ≡ put m lo bytes
unfolding applied
write_is m lo bytes = refl

desc_is : (m : Memory) (index base : ℕ) → applied m (DescAt index base) ≡ m
unfolding applied
desc_is m index base = refl

renewed_shows : (w : Bool) (new c d : Option Cell) → shown c ≡ shown d → shown (renewed w new c) ≡ shown (renewed w new d)
renewed_shows true new c d e = refl
renewed_shows false new c d e = e

renewed_idle : (w : Bool) (new c : Option Cell) → may_execute new ≡ false → may_execute c ≡ false → may_execute (renewed w new c) ≡ false
renewed_idle true new c n e = n
renewed_idle false new c n e = e

renewed_new : (w : Bool) (new c : Option Cell) → is_some (renewed w new c) ≡ true → is_some c ≡ false → w ≡ true
renewed_new true new c m n = refl
renewed_new false new c m n = absurd (both_ways (is_some c) n m)

within_from : (lo len a : ℕ) → lo ≤ a → a < lo + len → within lo len a ≡ true
within_from lo len a l h = and_from _ _ (le-leb lo a l) (lt-ltb a (lo + len) h)

-- an effect that makes no code leaves idle what is
pub applied_idle : (e : Effect) (m : Memory) (a : ℕ) → makes_code e ≡ false → is_executable m a ≡ false → is_executable (applied m e) a ≡ false
unfolding put_is
applied_idle (WriteAt lo bytes) m a k h =
    ap (λ (u : Memory). is_executable u a) (write_is m lo bytes ∙ put_is m lo bytes) ∙ marks_executable (byte_put lo bytes a (m a)) (m a) (byte_put_marks lo bytes a (m a)) ∙ h
applied_idle (MapAt lo len mode bytes) m a k h =
    ap (λ (u : Memory). is_executable u a) (map_is m lo len mode bytes) ∙ unfold map_cell in renewed_idle (within lo len a) _ (m a) (made_idle mode lo len bytes k) h
applied_idle (UnmapAt lo len) m a k h = ap (λ (u : Memory). is_executable u a) (unmap_is m lo len) ∙ unfold unmap_cell in renewed_idle (within lo len a) None (m a) refl h
applied_idle (DescAt index base) m a k h = ap (λ (u : Memory). is_executable u a) (desc_is m index base) ∙ h

-- effects that come to the same: all are done, or the same one is refused for the same reason
abbrev pub AppliedAlong : (Memory → Memory → Type 0) → Applied → Applied → Type 0
AppliedAlong R (AllApplied o) (AllApplied t) = R o t
AppliedAlong R (AllApplied o) (RefusedAt why t) = ⊥
AppliedAlong R (RefusedAt why o) (AllApplied t) = ⊥
AppliedAlong R (RefusedAt why o) (RefusedAt other t) = (other ≡ why) × R o t

-- in an area whose added addresses are addresses, for memories that came from s
module _ (area : Area) (added_low : (a : ℕ) → area.added a ≡ true → a < 2 ^ 32) (s : Memory) where
  abbrev R : Memory → Memory → Type 0
  R o t = Alongside area s o t

  -- ---- accesses

  pub read_fault_along : (o t : Memory) → R o t → (at len : ℕ) → IsClearFault area.added (read_fault o at len) → read_fault t at len ≡ read_fault o at len
  read_fault_along o t w at len c = first_alike area.added (is_mapped o) (is_mapped t) (λ a n. shown_mapped (t a) (o a) (w.beside.outside a n)) (λ a i. ap is_some (w.beside.free a i)) len at c

  pub write_fault_along : (o t : Memory) → R o t → (at len : ℕ) → IsClearFault area.added (write_fault o at len) → write_fault t at len ≡ write_fault o at len
  write_fault_along o t w at len c = first_alike area.added (is_writable o) (is_writable t) (λ a n. shown_writable (t a) (o a) (w.beside.outside a n)) (λ a i. ap may_write (w.beside.free a i)) len at c

  pub bytes_along : (o t : Memory) → R o t → (at len : ℕ) → read_fault o at len ≡ None → bytes_at t at len ≡ bytes_at o at len
  bytes_along o t w at len e = bytes_alike area.added o t w.beside.outside w.beside.free len at e

  -- bytes that are put where nothing is added
  put_along : (o t : Memory) (at : ℕ) (bytes : List ℕ) → ((a : ℕ) → a < 2 ^ 32 → distance at a < length bytes → area.added a ≡ false) → R o t → R (put o at bytes) (put t at bytes)
  put_along o t at bytes h w = subst₂ R (sym (put_is o at bytes)) (sym (put_is t at bytes)) (changed_along area (byte_put at bytes) s o t clear w)
    where
      clear : IsClearChange area.added (byte_put at bytes)
      clear = record {
        shows = put_shows at bytes;
        idle = λ a c e. marks_executable (byte_put at bytes a c) c (byte_put_marks at bytes a c) ∙ e;
        apart = λ a i c. put_apart at bytes a c (⊎_elim (λ e. absurd (both_ways (area.added a) (h a (added_low a i) (ltb-true (distance at a) (length bytes) e)) i)) (λ e. e) (cases_Bool (nat_lt (distance at a) (length bytes))));
        low = λ a c m n. absurd (both_ways (is_some c) n (sym (marks_mapped (byte_put at bytes a c) c (byte_put_marks at bytes a c)) ∙ m));
      }

  -- a write that the first memory grants goes to both
  pub granted_along : (o t : Memory) (at : ℕ) (bytes : List ℕ) → write_fault o at (length bytes) ≡ None → R o t → R (put o at bytes) (put t at bytes)
  granted_along o t at bytes n w = put_along o t at bytes (λ a low d. ⊎_elim (λ i. absurd (both_ways (is_writable o a) (ap may_write (w.beside.free a i)) (reached o w.low at (length bytes) n a low d))) (λ i. i) (cases_Bool (area.added a))) w

  -- ---- effects

  -- a range that is made anew by cells without code, or taken away
  renewed_clear : (lo len : ℕ) (new : ℕ → Option Cell) → lo + len ≤ 0xFFFFF000 → ((a : ℕ) → may_execute (new a) ≡ false) → ((a : ℕ) → within lo len a ≡ true → area.added a ≡ false) → IsClearChange area.added (λ a c. renewed (within lo len a) (new a) c)
  renewed_clear lo len new end idle h = record {
    shows = λ a c d e. renewed_shows (within lo len a) (new a) c d e;
    idle = λ a c e. renewed_idle (within lo len a) (new a) c (idle a) e;
    apart = λ a i c. cond-false _ _ _ (⊎_elim (λ e. absurd (both_ways (area.added a) (h a e) i)) (λ e. e) (cases_Bool (within lo len a)));
    low = λ a c m n. let p = within_parts lo len a (renewed_new (within lo len a) (new a) c m n) in omega (arith, p.1);
  }

  -- an effect that is clear and makes no code goes to both
  applied_along : (e : Effect) (o t : Memory) → IsEffect e → ((a : ℕ) → touches e a ≡ true → area.added a ≡ false) → makes_code e ≡ false → R o t → R (applied o e) (applied t e)
  applied_along (WriteAt lo bytes) o t i h k w = subst₂ R (sym (write_is o lo bytes)) (sym (write_is t lo bytes)) (put_along o t lo bytes inside w)
    where
      inside : (a : ℕ) → a < 2 ^ 32 → distance lo a < length bytes → area.added a ≡ false
      inside a low d = let same : lo + distance lo a ≡ a = omega (arith, i.end) in h a (within_from lo (length bytes) a (omega (arith, same)) (omega (arith, same)))
  applied_along (MapAt lo len mode bytes) o t i h k w =
      let clear : IsClearChange area.added (map_cell lo len mode bytes) = unfold map_cell in renewed_clear lo len _ i.end (λ a. made_idle mode lo len bytes k) h in
      subst₂ R (sym (map_is o lo len mode bytes)) (sym (map_is t lo len mode bytes)) (changed_along area (map_cell lo len mode bytes) s o t clear w)
  applied_along (UnmapAt lo len) o t i h k w =
      let clear : IsClearChange area.added (unmap_cell lo len) = unfold unmap_cell in renewed_clear lo len (λ a. None) i.end (λ a. refl) h in
      subst₂ R (sym (unmap_is o lo len)) (sym (unmap_is t lo len)) (changed_along area (unmap_cell lo len) s o t clear w)
  applied_along (DescAt index base) o t i h k w = subst₂ R (sym (desc_is o index base)) (sym (desc_is t index base)) w

  -- tests that agree at what a clear effect touches find the same first address
  touched_along : (e : Effect) (o t : Memory) (p q : ℕ → Bool) → IsEffect e → IsClearEffect area.added o t e → ((a : ℕ) → area.added a ≡ false → is_executable o a ≡ false → is_executable t a ≡ false → q a ≡ p a) → first_touched q e ≡ first_touched p e
  touched_along e o t p q i h same =
      first_same p q (effect_len e) (effect_lo e) (omega (arith, i.end)) (λ a low high. let c = h a (within_from (effect_lo e) (effect_len e) a low high) in same a c.0 c.1 c.2)

  unmapped_along : (e : Effect) (o t : Memory) → IsEffect e → IsClearEffect area.added o t e → R o t → unmapped t e ≡ unmapped o e
  unmapped_along (WriteAt lo bytes) o t i h w = touched_along (WriteAt lo bytes) o t (is_mapped o) (is_mapped t) i h (λ a n c d. shown_mapped (t a) (o a) (w.beside.outside a n))
  unmapped_along (MapAt lo len mode bytes) o t i h w = refl
  unmapped_along (UnmapAt lo len) o t i h w = touched_along (UnmapAt lo len) o t (is_mapped o) (is_mapped t) i h (λ a n c d. shown_mapped (t a) (o a) (w.beside.outside a n))
  unmapped_along (DescAt index base) o t i h w = refl

  unwritable_along : (e : Effect) (o t : Memory) → IsEffect e → IsClearEffect area.added o t e → R o t → unwritable t e ≡ unwritable o e
  unwritable_along (WriteAt lo bytes) o t i h w = touched_along (WriteAt lo bytes) o t (is_writable o) (is_writable t) i h (λ a n c d. shown_writable (t a) (o a) (w.beside.outside a n))
  unwritable_along (MapAt lo len mode bytes) o t i h w = refl
  unwritable_along (UnmapAt lo len) o t i h w = refl
  unwritable_along (DescAt index base) o t i h w = refl

  refusal_along : (e : Effect) (o t : Memory) → IsEffect e → IsClearEffect area.added o t e → R o t → refusal_of t e ≡ refusal_of o e
  refusal_along e o t i h w =
      let code = touched_along e o t (λ a. not (is_executable o a)) (λ a. not (is_executable t a)) i h (λ a n c d. ap not (d ∙ sym c)) in
      ap (λ r. if makes_code e || is_some r then Some Executable else refused_access (unmapped t e) (unwritable t e)) code
      ∙ ap₂ (λ m v. if makes_code e || is_some (first_touched (λ a. not (is_executable o a)) e) then Some Executable else refused_access m v) (unmapped_along e o t i h w) (unwritable_along e o t i h w)

  -- after an effect the others are as clear
  clear_after : (e : Effect) (o t : Memory) → makes_code e ≡ false → (es : List Effect) → AllByRecursion (IsClearEffect area.added o t) es → AllByRecursion (IsClearEffect area.added (applied o e) (applied t e)) es
  clear_after e o t k [] h = tt
  clear_after e o t k (g ∷ es) h = (λ a i. let c = h.0 a i in (c.0, applied_idle e o a k c.1, applied_idle e t a k c.2), clear_after e o t k es h.1)

  -- clear effects come to the same in both
  pub effects_along : (es : List Effect) (o t : Memory) → AllByRecursion IsEffect es → AllByRecursion (IsClearEffect area.added o t) es → R o t → AppliedAlong R (apply_all o es) (apply_all t es)
  effects_along [] o t i h w = w
  effects_along (e ∷ es) o t i h w = go (effects_along es (applied o e) (applied t e) i.1) (refusal_of o e) refl (refusal_of t e) (refusal_along e o t i.0 h.0 w)
    where
      go : (AllByRecursion (IsClearEffect area.added (applied o e) (applied t e)) es → R (applied o e) (applied t e) → AppliedAlong R (apply_all (applied o e) es) (apply_all (applied t e) es)) → (r : Option Refusal) → refusal_of o e ≡ r → (q : Option Refusal) → q ≡ refusal_of o e → AppliedAlong R (apply_next r o (apply_all (applied o e) es)) (apply_next q t (apply_all (applied t e) es))
      go rec None p None q = let k = granted_idle e o p in rec (clear_after e o t k es h.1) (applied_along e o t i.0 (λ a u. (h.0 a u).0) k w)
      go rec None p (Some v) q = absurd (none-some v (sym (q ∙ p)))
      go rec (Some v) p None q = absurd (none-some v (q ∙ p))
      go rec (Some v) p (Some u) q = (same_Some u v (q ∙ p), w)

  -- and leave the same descriptors
  pub describes_along : (es : List Effect) (o t : Memory) (ds : Descs) → AllByRecursion IsEffect es → AllByRecursion (IsClearEffect area.added o t) es → R o t → describe_all t es ds ≡ describe_all o es ds
  describes_along [] o t ds i h w = refl
  describes_along (e ∷ es) o t ds i h w =
      ap (λ r. describe_next r ds (describe_all (applied t e) es (described ds e))) (refusal_along e o t i.0 h.0 w)
      ∙ go (describes_along es (applied o e) (applied t e) (described ds e) i.1) (refusal_of o e) refl
    where
      go : (AllByRecursion (IsClearEffect area.added (applied o e) (applied t e)) es → R (applied o e) (applied t e) → describe_all (applied t e) es (described ds e) ≡ describe_all (applied o e) es (described ds e)) → (r : Option Refusal) → refusal_of o e ≡ r → describe_next r ds (describe_all (applied t e) es (described ds e)) ≡ describe_next r ds (describe_all (applied o e) es (described ds e))
      go rec None p = let k = granted_idle e o p in rec (clear_after e o t k es h.1) (applied_along e o t i.0 (λ a u. (h.0 a u).0) k w)
      go rec (Some v) p = refl
