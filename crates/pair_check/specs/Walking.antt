-- What looking at the addresses of runs gives, and at the pairs of a list. This project's own.
use Rattle.std.specs.Prelude.{◌≡◌, ℕ, ◌-◌, ◌<◌, ◌≤◌, ◌==◌, ◌&&◌, ◌||◌, Bool, true, false, List, length, get_or, Option, Some, None, Result, Ok, Err, if◌then◌else◌}
use Rattle.std.specs.List.{filter_map}
use Rattle.elf32_write.specs.Frame.{Frame, pair_at}
use Rattle.superset.specs.declared.site.Site.{Site}
use Rattle.simulation_laws.specs.Code.{site_at}
use Rattle.simulation_laws.specs.Relocated.{fits_ways}
use Rattle.pair_check.specs.declared.differs.Differs.{Differs}
use Rattle.pair_check.specs.Parts.{address_differs, first_among, has_other, is_behind, is_way, other_way}

-- a number where nothing is wrong, else what is wrong
abbrev pub Finds : Option Differs → ℕ → Result ℕ Differs → Type 0
Finds o n (Ok k) = (o ≡ None) × (k ≡ n)
Finds o n (Err d) = o ≡ Some d

-- how many sites an address is
abbrev pub site_count : Option Site → ℕ
site_count None = 0
site_count (Some s) = 1

-- how many of these addresses are sites, where none differs, else what is wrong first
abbrev pub IsSeen : Frame → (ℕ → Option ℕ) → List ℕ → Result ℕ Differs → Type 0
IsSeen f code at r = Finds (first_among (address_differs f code) at) (length (filter_map (site_at code) at)) r

-- at each site of the code the frame counts both ways or neither, and only a branch's or a loop's
abbrev pub FitWays : Frame → (ℕ → Option ℕ) → Type 0
FitWays f code = (a : ℕ) (s : Site) → site_at code a ≡ Some s → fits_ways f s ≡ true

-- ---- pairs

-- the pair before pair k, if there is one
abbrev pub pair_before : Frame → ℕ → Option (ℕ × ℕ)
pair_before f k = if k == 0 then None else Some (pair_at f (k - 1))

-- each of so many pairs is behind the one before it, and the one after these isn't
pub record IsOrdered (f : Frame) (n : ℕ) : Type 0 where
  pub within : n ≤ f.counters
  pub behind : (k : ℕ) → k < n → is_behind (pair_before f k) (pair_at f k) ≡ true
  pub ends : n < f.counters → is_behind (pair_before f n) (pair_at f n) ≡ false

-- no pair of the first n but the one at this place can be this pair
pub record IsPlace (f : Frame) (n : ℕ) (q : ℕ × ℕ) (place : ℕ) : Type 0 where
  pub within : place ≤ n
  pub alone : (k : ℕ) → k < n → pair_at f k ≡ q → k ≡ place

-- a pair is that of another's address and other way
abbrev pub is_other : ℕ × ℕ → ℕ × ℕ → Bool
is_other p q = q.0 == p.0 && q.1 == other_way p.1

-- marks of n pairs are set besides where a pair is that of the other way
pub record AreMarked (f : Frame) (n : ℕ) (q : ℕ × ℕ) (old new : List Bool) : Type 0 where
  pub count : length new ≡ n
  pub set : (k : ℕ) → k < n → is_way (pair_at f k).1 ≡ true → get_or new k false ≡ (get_or old k false || is_other (pair_at f k) q)

-- marks of n pairs say which of those that count a way have the other way in the list
pub record AreMarks (f : Frame) (n : ℕ) (marks : List Bool) : Type 0 where
  pub count : length marks ≡ n
  pub set : (k : ℕ) → k < n → is_way (pair_at f k).1 ≡ true → get_or marks k false ≡ has_other f (pair_at f k)
