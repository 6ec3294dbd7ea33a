-- Pieces one after the other: quiet steps in front of what meets an instruction, and what goes on from where a piece
-- arrives.
use Rattle.std.specs.Prelude.{◌≡◌, ℕ, ◌+◌, ◌<◌, true, false, List, ◌++◌, length}
use Rattle.std.proofs.Common.{refl, ap, ◌∙◌, subst, inl, inr, ◌⊎◌, arith, length-append}
use Rattle.mv_base.specs.Memory.{Memory, exec_byte_of}
use Rattle.x86_insn.specs.State.{State, Outcome, Next, Stopped}
use Rattle.step_laws.specs.Passes.{Passes}
use Rattle.step_laws.specs.Beside.{ShowsSame, StatesBeside}
use Rattle.step_laws.specs.Meeting.{Area, HasArea, StandsIn, Keeps, AllKeep, AtPiece, Reaches, Meets}
use Rattle.step_laws.specs.laws.Passing.{passes_then, passes_weaker}
use Rattle.step_laws.specs.laws.Fetching as standing
use Rattle.step_laws.specs.laws.Putting.{marks_writable}
use Rattle.step_laws.specs.laws.Alongside.{keeps_on}

-- ---- what stands

-- bytes that stand are a front, and a back
stands_front : (area : Area) (t : Memory) (at : ℕ) (xs ys : List ℕ) → StandsIn area t at (xs ++ ys) → StandsIn area t at xs
stands_front area t at xs ys s = record {
  stands = standing.stands_front t at xs ys s.stands;
  added = λ k h. s.added k (longer k h);
  fixed = λ k h. s.fixed k (longer k h);
}
  where
    longer : (k : ℕ) → k < length xs → k < length (xs ++ ys)
    longer k h = omega (arith, length-append xs ys)

pub stands_back : (area : Area) (t : Memory) (at : ℕ) (xs ys : List ℕ) → StandsIn area t at (xs ++ ys) → StandsIn area t (at + length xs) ys
stands_back area t at xs ys s = record {
  stands = standing.stands_back t at xs ys s.stands;
  added = λ k h. subst (λ a. area.added a ≡ true) (place k) (s.added (length xs + k) (longer k h));
  fixed = λ k h. subst (λ a. area.scratch a ≡ false) (place k) (s.fixed (length xs + k) (longer k h));
}
  where
    longer : (k : ℕ) → k < length ys → length xs + k < length (xs ++ ys)
    longer k h = omega (arith, length-append xs ys)

    place : (k : ℕ) → at + (length xs + k) ≡ at + length xs + k
    place k = omega arith

-- a piece whose bytes are the front of another's
pub front_piece : (area : Area) (here : ℕ) (xs ys : List ℕ) (o t : State) → AtPiece area here (xs ++ ys) o t → AtPiece area here xs o t
front_piece area here xs ys o t at = record {
  area_there = at.area_there;
  bounds = at.bounds;
  beside = at.beside;
  place = at.place;
  stands = stands_front area t.memory here xs ys at.stands;
}

-- what a piece leaves still stands, and the area is still there
pub keeps_stand : (area : Area) (t u : Memory) (at : ℕ) (bytes : List ℕ) → Keeps area t u → StandsIn area t at bytes → StandsIn area u at bytes
keeps_stand area t u at bytes h s = record {
  stands = record { byte = λ k l. ap exec_byte_of (h.kept (at + k) (s.added k l) (s.fixed k l)) ∙ s.stands.byte k l; low = s.stands.low };
  added = s.added;
  fixed = s.fixed;
}

pub keeps_area : (area : Area) (t u : Memory) → Keeps area t u → HasArea area t → HasArea area u
keeps_area area t u h k = record {
  low = k.low;
  fits = k.fits;
  private = k.private;
  added = k.added;
  writable = λ a e. marks_writable (u a) (t a) (h.marks a (k.added a e)) ∙ k.writable a e;
}

-- ---- one after the other

-- what leaves the area behind states that leave it
pub all_keep : (area : Area) (m : Memory) (n : ℕ) (u last : State) → Keeps area m u.memory → AllKeep area u.memory n u last → AllKeep area m n u last
all_keep area m n u last h p = passes_weaker (λ v. Keeps area u.memory v.memory) (λ v. Keeps area m v.memory) (λ v k. keeps_on area m u.memory v.memory h k) n u last p

-- two runs that leave it, one after the other
pub all_keep_then : (area : Area) (n k : ℕ) (t u last : State) → AllKeep area t.memory n t u → Keeps area t.memory u.memory → AllKeep area u.memory k u last → AllKeep area t.memory (n + k) t last
all_keep_then area n k t u last p h q = passes_then (λ v. Keeps area t.memory v.memory) n k t u last p (all_keep area t.memory k u last h q)

module _ (area : Area) (o t : State) where
  abbrev Quiet : State → State → Type 0
  Quiet o' u = ShowsSame area.added o u ⊎ ShowsSame area.added o' u

  -- quiet steps in front of a piece
  pub meets_after : (k n : ℕ) (Arrives : ℕ → State → Type 0) (u : State) (X : Outcome) → Passes (ShowsSame area.added o) k t u → AllKeep area t.memory k t u → Keeps area t.memory u.memory → Meets area n Arrives o u X → Meets area (k + n) Arrives o t X
  meets_after k n Arrives u (Next o') p q h m = record {
    last = m.last;
    passes = passes_then (Quiet o') k n t u m.last (passes_weaker (ShowsSame area.added o) (Quiet o') (λ v s. inl s) k t u p) m.passes;
    way = all_keep_then area k n t u m.last q h m.way;
    alike = m.alike;
    keeps = keeps_on area t.memory u.memory m.last.memory h m.keeps;
    arrives = m.arrives;
  }
  meets_after k n Arrives u (Stopped why o') p q h m = record {
    count = k + m.count;
    fewer = omega (arith, m.fewer);
    last = m.last;
    stopped = m.stopped;
    passes = passes_then (ShowsSame area.added o) k m.count t u m.last p m.passes;
    way = all_keep_then area k m.count t u m.last q h m.way;
    shows = m.shows;
    kept = keeps_on area t.memory u.memory m.last.memory h m.kept;
    stops = m.stops;
    alike = m.alike;
    keeps = keeps_on area t.memory u.memory m.stopped.memory h m.keeps;
  }

  -- where a piece arrives, it goes on
  pub reaches_then : (k n : ℕ) (First Arrives : ℕ → State → Type 0) (o' : State) → Reaches area k First o o' t → ((u : State) → First o'.eip u → StatesBeside area.added o' u → Keeps area t.memory u.memory → Reaches area n Arrives o' o' u) → Reaches area (k + n) Arrives o o' t
  reaches_then k n First Arrives o' r go =
      let m = go r.last r.arrives r.alike r.keeps in
      record {
        last = m.last;
        passes = passes_then (Quiet o') k n t r.last m.last r.passes (passes_weaker _ (Quiet o') (λ v s. inr (either v s)) n r.last m.last m.passes);
        way = all_keep_then area k n t r.last m.last r.way r.keeps m.way;
        alike = m.alike;
        keeps = keeps_on area t.memory r.last.memory m.last.memory r.keeps m.keeps;
        arrives = m.arrives;
      }
    where
      either : (v : State) → ShowsSame area.added o' v ⊎ ShowsSame area.added o' v → ShowsSame area.added o' v
      either v (inl s) = s
      either v (inr s) = s

  -- the same where the instruction may stop, which it then does in the first part
  pub meets_then : (k n : ℕ) (First Arrives : ℕ → State → Type 0) (X : Outcome) → Meets area k First o t X → ((o' u : State) → X ≡ Next o' → First o'.eip u → StatesBeside area.added o' u → Keeps area t.memory u.memory → Reaches area n Arrives o' o' u) → Meets area (k + n) Arrives o t X
  meets_then k n First Arrives (Next o') m go = reaches_then k n First Arrives o' m (λ u. go o' u refl)
  meets_then k n First Arrives (Stopped why o') m go = record {
    count = m.count;
    fewer = omega (arith, m.fewer);
    last = m.last;
    stopped = m.stopped;
    passes = m.passes;
    way = m.way;
    shows = m.shows;
    kept = m.kept;
    stops = m.stops;
    alike = m.alike;
    keeps = m.keeps;
  }

  -- where it arrives at one place it arrives at another
  pub meets_wider : (k : ℕ) (First Arrives : ℕ → State → Type 0) (X : Outcome) → ((o' u : State) → First o'.eip u → Arrives o'.eip u) → Meets area k First o t X → Meets area k Arrives o t X
  meets_wider k First Arrives (Next o') go m = record { last = m.last; passes = m.passes; way = m.way; alike = m.alike; keeps = m.keeps; arrives = go o' m.last m.arrives }
  meets_wider k First Arrives (Stopped why o') go m = m
