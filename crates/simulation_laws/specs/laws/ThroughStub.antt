-- From the stub, with an address in the private area, the output comes to where that is mapped.
use Rattle.std.proofs.Common.{◌≡◌, ℕ, ◌+◌, ◌*◌, ◌^◌, ◌<◌, ◌≤◌, ◌⊎◌, inl, inr, Bool, true, false, ◌==◌, List, [], ◌∷◌, length, Option, Some, None, nat_le, nat_lt, if◌then◌else◌, refl, sym, ap, ◌∙◌, subst, arith}
use Rattle.std.specs.Option.{option_map}
use Rattle.std.proofs.lemmas.Bool.{and_parts, ltb-true, or_cases, leb-true, le-leb, lt-ltb, and_from, both_ways}
use Rattle.mv_base.specs.Memory.{within}
use Rattle.mv_base.specs.Table.{run_of}
use Rattle.mv_base.specs.declared.range.RunPlace.{RunPlace}
use Rattle.x86_insn.specs.State.{IsCore, State}
use Rattle.step_laws.specs.Bounds.{IsState}
use Rattle.step_laws.specs.Keeping.{KeepsRest}
use Rattle.step_laws.specs.Meeting.{private_len, HasArea, GoesVia, Reaches, Moves}
use Rattle.step_laws.specs.laws.Passing.{passes_weaker}
use Rattle.step_laws.specs.laws.Putting.{keeps_wider}
use Rattle.step_laws.specs.laws.Resting.{rest_top, rest_reaches}
use Rattle.elf32_write.specs.Frame.{Frame, frame_map, frame_entry, frame_table, is_private}
use Rattle.lookup_stub.specs.Stub.{stub}
use Rattle.lookup_stub.specs.Finding.{is_scratch, number_in, steps_by, lookup_steps, IsLookup}
use Rattle.lookup_stub.specs.laws.Found.{finds}
use Rattle.lookup_stub.specs.laws.StubBytes.{stub_length}
use Rattle.simulation_laws.specs.Relocated.{IsOutput}
use Rattle.simulation_laws.specs.Stepping.{area_of, Alike}
use Rattle.simulation_laws.specs.laws.Sound.{area_there, stands_in, scratch_private, public_fixed}

-- ---- what the stub writes is private

within_wider : (lo len lo' len' a : ℕ) → lo' ≤ lo → lo + len ≤ lo' + len' → within lo len a ≡ true → within lo' len' a ≡ true
within_wider lo len lo' len' a low high h =
    let w = and_parts (nat_le lo a) (nat_lt a (lo + len)) h in
    let above = leb-true lo a w.0 in
    let below = ltb-true a (lo + len) w.1 in
    and_from (nat_le lo' a) (nat_lt a (lo' + len')) (le-leb lo' a (omega arith)) (lt-ltb a (lo' + len') (omega arith))

stub_private : (p a : ℕ) → within p private_len a ≡ false → is_scratch p a ≡ false
stub_private p a h = go (is_scratch p a) refl
  where
    part : (within (p + 4) 8 a ≡ true) ⊎ (within (p + 44) 20 a ≡ true) → within p private_len a ≡ true
    part (inl e) = within_wider (p + 4) 8 p 64 a (omega arith) (omega arith) e
    part (inr e) = within_wider (p + 44) 20 p 64 a (omega arith) (omega arith) e

    go : (b : Bool) → is_scratch p a ≡ b → b ≡ false
    go false e = refl
    go true e = absurd (both_ways (within p private_len a) h (part (or_cases (within (p + 4) 8 a) (within (p + 44) 20 a) e)))

-- ---- how many steps a lookup takes

number_most : (runs : List RunPlace) (a : ℕ) → number_in runs a ≤ length runs
number_most [] a = omega arith
number_most (r ∷ rs) a = go (within r.lo r.len a) (number_most rs a)
  where
    go : (b : Bool) → number_in rs a ≤ length rs → (if b then 1 else 1 + number_in rs a) ≤ length (r ∷ rs)
    go true h = omega arith
    go false h = omega arith

pub lookup_most : (form : ℕ) (runs : List RunPlace) (a : ℕ) → lookup_steps form runs a ≤ 24 + 4 * length runs
lookup_most form runs a = go (run_of runs a)
  where
    first : (b : Bool) → (if b then 19 else 24) ≤ 24
    first true = omega arith
    first false = omega arith

    go : (r : Option RunPlace) → steps_by form runs a r ≤ 24 + 4 * length runs
    go None = omega arith
    go (Some r) = omega (arith, number_most runs a, first (form == 1))

-- ---- the stub

stub_some : (f : Frame) → 0 < length (stub f.form f.runs f.private)
stub_some f = omega (arith, stub_length f.form f.runs f.private, go (f.form == 1))
  where
    go : (b : Bool) → 0 < (if b then 51 else 65)
    go true = omega arith
    go false = omega arith

-- the stub lies low
pub stub_end : (b x : List ℕ) (f : Frame) → IsOutput b x f → f.code.lo < 0xB0000000
stub_end b x f rel =
    let first = rel.stub.added 0 (stub_some f) in
    let p = and_parts (nat_le f.added.lo (f.code.lo + 0)) (nat_lt (f.code.lo + 0) (f.added.lo + f.added.len)) first in
    omega (arith, ltb-true (f.code.lo + 0) (f.added.lo + f.added.len) p.1, rel.low)

is_private_of : (f : Frame) (k : ℕ) → k < private_len → is_private f (f.private + k) ≡ true
is_private_of f k h = scratch_private f (f.private + k) (and_from _ _ (le-leb f.private (f.private + k) (omega arith)) (lt-ltb (f.private + k) (f.private + private_len) (omega arith)))

module _ (b x : List ℕ) (f : Frame) (rel : IsOutput b x f) (o u : State) (bounds : IsState o) (s : Alike x f o u) where
  there : HasArea (area_of f) u.memory
  there = area_there b x f rel o u s

  private_end : f.private + 64 < 2 ^ 32
  private_end =
      let last = (rel.scratch (f.private + 63) (is_private_of f 63 (omega arith))).0 in
      let p = and_parts (nat_le f.added.lo (f.private + 63)) (nat_lt (f.private + 63) (f.added.lo + f.added.len)) last in
      omega (arith, ltb-true (f.private + 63) (f.added.lo + f.added.len) p.1, rel.low)

  lookup : GoesVia (area_of f) f.code.lo o.eip u → IsLookup f.form f.runs f.private (frame_table f) f.table.lo f.code.lo o.eip u
  lookup g = record {
    core = subst IsCore (sym s.beside.core) bounds.core;
    top = rest_top (area_of f) o u there s.beside bounds.memory;
    place = g.0;
    code = (stands_in b x f rel o u f.code.lo (stub f.form f.runs f.private) s rel.stub (stub_some f)).stands;
    words = record { byte = λ k h. ap (option_map (λ c. c.byte)) (s.kept (f.table.lo + k) (rel.table_added k h).0 (rel.table_added k h).1) ∙ rel.table_holds k h; low = rel.table_low };
    bytes = rel.table_bytes;
    room = record { writable = λ k h. there.writable (f.private + k) (there.private k h); low = private_end };
    code_apart = λ k h. public_fixed f (f.code.lo + k) (rel.stub.public k h);
    table_apart = λ k h. public_fixed f (f.table.lo + k) (rel.table_added k h).1;
    placed = rel.placed;
    target = g.1;
    fits = bounds.place;
  }

  pub via_goes : GoesVia (area_of f) f.code.lo o.eip u → Reaches (area_of f) (lookup_steps f.form f.runs o.eip) (Moves (frame_map f)) o o u
  unfolding frame_entry
  via_goes g =
      let found = finds f.form f.runs f.private (frame_table f) f.table.lo f.code.lo o.eip u (lookup g) in
      let wider : (v : State) → KeepsRest (is_scratch f.private) u v → KeepsRest (area_of f).scratch u v = λ v k. record {
        descs = k.descs;
        calls = k.calls;
        answers = k.answers;
        memory = keeps_wider (is_scratch f.private) (area_of f).scratch u.memory v.memory (λ a h. stub_private f.private a h) k.memory;
      } in
      rest_reaches (area_of f) o u there s.beside (lookup_steps f.form f.runs o.eip) (Moves (frame_map f)) o found.last
      (passes_weaker (KeepsRest (is_scratch f.private) u) (KeepsRest (area_of f).scratch u) wider (lookup_steps f.form f.runs o.eip) u found.last found.passes)
      (wider found.last found.keeps) (found.core ∙ s.beside.core) refl refl refl refl found.place
