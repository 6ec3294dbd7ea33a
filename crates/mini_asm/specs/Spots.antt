-- Where lines stand and where they go, as far as code knows it: addresses modulo 2^32. This project's own.
use Rattle.std.specs.Prelude.{◌≡◌, ℕ, ◌+◌, ◌-◌, ◌%◌, ◌^◌, ◌<◌, ◌≤◌, ◌&&◌, nat_le, nat_lt, Bool, true, false, List, [], ◌∷◌, length, take, Option, Some, None, slice_get}
use Rattle.std.specs.Option.{option_map_or}
use Rattle.mv_base.specs.Memory.{address_after, distance}
use Rattle.x86_insn.specs.declared.insn.Insn.{Insn}
use Rattle.x86_insn.specs.declared.insn.Insn.TheVariants as insn
use Rattle.mini_asm.specs.declared.form.Form.{Form}
use Rattle.mini_asm.specs.declared.form.Form.TheVariants as form
use Rattle.mini_asm.specs.declared.spots.Spot.{Spot}
use Rattle.mini_asm.specs.Faults.{HasSize, most_code}
use Rattle.mini_asm.specs.Forms.{IsForm}

-- how many bytes a form has, on whatever line it stands
abbrev pub IsSizeOf : Option Form → ℕ → Type 0
IsSizeOf None n = Unit {0}
IsSizeOf (Some f) n = (line : List ℕ) → IsForm line f → HasSize f n

-- all bytes of some lines
abbrev pub total : List Spot → ℕ
total [] = 0
total (s ∷ spots) = s.size + total spots

-- where forms stand, one behind the other
abbrev pub AreSpots : ℕ → List (Option Form) → List Spot → Type 0
AreSpots at [] [] = Unit {0}
AreSpots at [] (s ∷ spots) = ⊥
AreSpots at (f ∷ forms) [] = ⊥
AreSpots at (f ∷ forms) (s ∷ spots) = (s.at ≡ at % 2 ^ 32) × IsSizeOf f s.size × AreSpots (at + s.size) forms spots

-- ---- where lines go

-- the address of a label that is defined at a place
abbrev pub address_in : (List ℕ → Option ℕ) → List Spot → List ℕ → ℕ
address_in places spots name = option_map_or (λ place. option_map_or (λ (s : Spot). s.at) (slice_get spots place) 0) (places name) 0

-- a direct transfer with this number
abbrev pub with_target : ℕ → Insn → Insn
with_target to (insn.Jump rel) = insn.Jump to
with_target to (insn.Branch cond rel) = insn.Branch cond to
with_target to (insn.Loop kind rel) = insn.Loop kind to
with_target to (insn.Call rel) = insn.Call to
with_target to i = i

-- the instruction of a line as it reads where the address behind it is 0
abbrev pub placed_form : (List ℕ → ℕ) → Form → Option Insn
placed_form addresses (form.Code i) = Some i
placed_form addresses (form.Aimed i name) = Some (with_target (addresses name) i)
placed_form addresses f = None

abbrev pub placed : (List ℕ → ℕ) → Option Form → Option Insn
placed addresses None = None
placed addresses (Some f) = placed_form addresses f

-- a loop that goes too far
abbrev pub is_long : Insn → ℕ → Bool
is_long (insn.Loop kind to) next = nat_le 128 (distance next to) && nat_lt (distance next to) (2 ^ 32 - 128)
is_long i next = false

abbrev pub is_far : (List ℕ → ℕ) → Option Form → Spot → Bool
is_far addresses f s = option_map_or (λ i. is_long i (address_after s.at s.size)) (placed addresses f) false

-- ---- what is at fault, where all lines are good

-- a loop at a place goes too far
pub record FarAt (addresses : List ℕ → ℕ) (forms : List (Option Form)) (spots : List Spot) (place : ℕ) : Type 0 where
  pub says : Option Form
  pub is_form : slice_get forms place ≡ Some says
  pub spot : Spot
  pub is_spot : slice_get spots place ≡ Some spot
  pub far : is_far addresses says spot ≡ true

abbrev pub FirstFar : (List ℕ → ℕ) → List (Option Form) → List Spot → Option ℕ → Type 0
FirstFar addresses forms spots None = (k : ℕ) → FarAt addresses forms spots k → ⊥
FirstFar addresses forms spots (Some place) = FarAt addresses forms spots place × ((k : ℕ) → k < place → FarAt addresses forms spots k → ⊥)

-- the line at a place is the first that ends past the most bytes of code
pub record IsFull (spots : List Spot) (place : ℕ) : Type 0 where
  pub within : place < length spots
  pub before : total (take place spots) ≤ most_code
  pub past : most_code < total (take (place + 1) spots)

-- no line is at fault
pub record Fits (addresses : List ℕ → ℕ) (forms : List (Option Form)) (spots : List Spot) : Type 0 where
  pub near : (k : ℕ) → FarAt addresses forms spots k → ⊥
  pub most : total spots ≤ most_code
  pub some : 0 < total spots

-- the place of the line that is at fault
pub data IsMisfit (addresses : List ℕ → ℕ) (forms : List (Option Form)) (spots : List Spot) : ℕ → Type 0 where
  Far : (place : ℕ) → FirstFar addresses forms spots (Some place) → IsMisfit addresses forms spots place
  Full : (place : ℕ) → FirstFar addresses forms spots None → IsFull spots place → IsMisfit addresses forms spots place
  Empty : FirstFar addresses forms spots None → total spots ≡ 0 → IsMisfit addresses forms spots (length forms)

abbrev pub FirstMisfit : (List ℕ → ℕ) → List (Option Form) → List Spot → Option ℕ → Type 0
FirstMisfit addresses forms spots None = Fits addresses forms spots
FirstMisfit addresses forms spots (Some place) = IsMisfit addresses forms spots place
