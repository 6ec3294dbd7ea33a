-- Where the code begins with the stub, a run that enters it finds where the frame maps the address.
use Rattle.std.proofs.Common.{◌≡◌, ℕ, ◌+◌, ◌^◌, ◌<◌, ◌≤◌, Bool, true, false, List, length, Option, Some, None, nat_le, nat_lt, refl, ap, ◌∙◌, arith}
use Rattle.std.specs.Prelude.{slice_index}
use Rattle.std.specs.Option.{option_map}
use Rattle.std.proofs.lemmas.Bool.{and_parts, ltb-true, ltb-false, leb-true}
use Rattle.std.proofs.lemmas.List.{get_or_past}
use Rattle.mv_base.specs.Bytes.{AreBytes}
use Rattle.mv_base.specs.Memory.{Memory, IsMemory, Cell, within}
use Rattle.x86_insn.specs.State.{State}
use Rattle.elf32_write.specs.Frame.{Frame, frame, frame_code, frame_table, frame_map, frame_entry}
use Rattle.lookup_stub.specs.Stub.{stub}
use Rattle.lookup_stub.specs.Finding.{Finds, lookup_steps}
use Rattle.lookup_stub.specs.laws.Found.{finds}
use Rattle.simulation_laws.specs.Front.{begins}
use Rattle.simulation_laws.specs.Entered.{IsHeld, IsEntered}
use Rattle.simulation_laws.specs.laws.Ruled.{ruled, code_fits, all_placed}
use Rattle.simulation_laws.specs.laws.Fronts.{begins_fits, begins_same}

not_true : (b : Bool) → (b ≡ true → ⊥) → b ≡ false
not_true true never = absurd (never refl)
not_true false never = refl

-- an address below a range is not in it
below : (lo len a : ℕ) → a < lo → within lo len a ≡ false
below lo len a lt = not_true (within lo len a) (λ h. let p = and_parts (nat_le lo a) (nat_lt a (lo + len)) h in let le = leb-true lo a p.0 in omega (arith, le, lt))

-- nothing lies at or above 2^32
nothing_above : (m : Memory) → IsMemory m → (a : ℕ) → 2 ^ 32 ≤ a → m a ≡ None
nothing_above m is a high = go (m a) refl
  where
    go : (c : Option Cell) → m a ≡ c → c ≡ None
    go None e = refl
    go (Some c) e = let low = is.low a c e in absurd (omega (arith, low, high))

-- a byte that a memory holds is a byte
byte_held : (m : Memory) (a n : ℕ) → IsMemory m → option_map (λ (c : Cell). c.byte) (m a) ≡ Some n → n < 256
byte_held m a n is h = go (m a) refl h
  where
    go : (c : Option Cell) → m a ≡ c → option_map (λ (d : Cell). d.byte) c ≡ Some n → n < 256
    go None e g = absurd (cc g)
    go (Some c) e g = let b = is.bytes a c e in let same : c.byte ≡ n = cc g in omega (arith, b, same)

table_bytes : (f : Frame) (m : Memory) → IsMemory m → IsHeld f m → AreBytes (frame_table f)
table_bytes f m is held k = go (nat_lt k (length (frame_table f))) refl
  where
    go : (b : Bool) → nat_lt k (length (frame_table f)) ≡ b → slice_index (frame_table f) k < 256
    go true e = byte_held m (f.table.lo + k) (slice_index (frame_table f) k) is (held.table k (ltb-true _ _ e))
    go false e =
        let past = ltb-false k (length (frame_table f)) e in
        omega (arith, get_or_past (frame_table f) k 0 past)

pub stub_finds : (x : List ℕ) (f : Frame) (a : ℕ) (s : State) → begins (stub f.form f.runs f.private) (frame_code f) ≡ true → frame x ≡ Some f → IsEntered f a s
    → Finds f.private (lookup_steps f.form f.runs a) (frame_map f a) s
unfolding frame_entry
stub_finds x f a s front framed in_ =
    let is = ruled x f framed in
    let fits = begins_fits (stub f.form f.runs f.private) (frame_code f) front in
    let within_code = code_fits f in
    finds f.form f.runs f.private (frame_table f) f.table.lo f.code.lo a s (record {
      core = in_.state.core;
      top = nothing_above s.memory in_.state.memory;
      place = in_.place;
      code = record {
        byte = λ k lt. in_.held.code k (omega (arith, lt, fits)) ∙ ap Some (begins_same (stub f.form f.runs f.private) (frame_code f) k front lt);
        low = omega (arith, fits, within_code, is.code, is.table, is.private);
      };
      words = record { byte = in_.held.table; low = omega (arith, is.held, is.table, is.private) };
      bytes = table_bytes f s.memory in_.state.memory in_.held;
      room = record { writable = λ k lt. in_.held.private k (omega (arith, lt, is.size)); low = omega (arith, is.private) };
      code_apart = λ k lt. below f.private 64 (f.code.lo + k) (omega (arith, lt, fits, within_code, is.code, is.table));
      table_apart = λ k lt. below f.private 64 (f.table.lo + k) (omega (arith, lt, is.held, is.table));
      placed = all_placed f is;
      target = in_.target;
      fits = in_.fits;
    })
