-- What an answer to a system call does to memory. This project's own: answers come from a log.
use Rattle.std.specs.Prelude.{ℕ, ◌+◌, ◌-◌, ◌^◌, ◌<◌, ◌≤◌, Bool, true, false, not, ◌||◌, List, [], ◌∷◌, length, Option, Some, None, is_some, if◌then◌else◌, slice_index, count_by, ◌==◌}
use Rattle.std.specs.List.{AllByRecursion}
use Rattle.mv_base.specs.Bytes.{AreBytes}
use Rattle.mv_base.specs.Memory.{Memory, is_mapped, is_writable, is_executable, within, first_failing, put}

-- what new cells may be used for, besides reading
pub data Mode : Type 0 where
  Read : Mode
  Write : Mode
  Exec : Mode

-- bytes written to mapped cells, a range of cells made anew, a range taken away, or a descriptor's base, which touches no
-- address
pub data Effect : Type 0 where
  WriteAt : (lo : ℕ) (bytes : List ℕ) → Effect
  MapAt : (lo len : ℕ) (mode : Mode) (bytes : List ℕ) → Effect
  UnmapAt : (lo len : ℕ) → Effect
  DescAt : (index base : ℕ) → Effect

-- what a system call gets: a value for EAX after some effects, or the end of the program; or what CPUID gets: values for
-- EAX, EBX, ECX and EDX
pub data Answer : Type 0 where
  Ret : (eax : ℕ) (effects : List Effect) → Answer
  Gone : Answer
  Cpuid : (eax ebx ecx edx : ℕ) → Answer

-- the range that an effect touches
abbrev pub effect_lo : Effect → ℕ
effect_lo (WriteAt lo bytes) = lo
effect_lo (MapAt lo len mode bytes) = lo
effect_lo (UnmapAt lo len) = lo
effect_lo (DescAt index base) = 0

abbrev pub effect_len : Effect → ℕ
effect_len (WriteAt lo bytes) = length bytes
effect_len (MapAt lo len mode bytes) = len
effect_len (UnmapAt lo len) = len
effect_len (DescAt index base) = 0

abbrev pub touches : Effect → ℕ → Bool
touches e a = within (effect_lo e) (effect_len e) a

-- the bytes of an effect
abbrev pub effect_bytes : Effect → List ℕ
effect_bytes (WriteAt lo bytes) = bytes
effect_bytes (MapAt lo len mode bytes) = bytes
effect_bytes (UnmapAt lo len) = []
effect_bytes (DescAt index base) = []

-- a descriptor: its index, and a base of 32 bits
pub record IsDescriptor (index base : ℕ) : Type 0 where
  pub some : 0 < index
  pub most : index ≤ 8191
  pub fits : base < 2 ^ 32

-- a range has an address, and a descriptor its bounds
abbrev pub IsSome : Effect → Type 0
IsSome (WriteAt lo bytes) = 0 < length bytes
IsSome (MapAt lo len mode bytes) = 0 < len
IsSome (UnmapAt lo len) = 0 < len
IsSome (DescAt index base) = IsDescriptor index base

-- the bounds that a log keeps
pub record IsEffect (e : Effect) : Type 0 where
  pub some : IsSome e
  pub end : effect_lo e + effect_len e ≤ 0xFFFFF000
  pub fits : length (effect_bytes e) ≤ effect_len e
  pub bytes : AreBytes (effect_bytes e)

abbrev pub IsAnswer : Answer → Type 0
IsAnswer (Ret eax effects) = (eax < 2 ^ 32) × AllByRecursion IsEffect effects
IsAnswer Gone = Unit {0}
IsAnswer (Cpuid eax ebx ecx edx) = (eax < 2 ^ 32) × (ebx < 2 ^ 32) × (ecx < 2 ^ 32) × (edx < 2 ^ 32)

-- why an effect is refused: it makes or touches executable cells, or an address is not mapped, or not writable
pub data Refusal : Type 0 where
  Executable : Refusal
  NotMapped : (at : ℕ) → Refusal
  NotWritable : (at : ℕ) → Refusal

abbrev pub makes_code : Effect → Bool
makes_code (WriteAt lo bytes) = false
makes_code (MapAt lo len Read bytes) = false
makes_code (MapAt lo len Write bytes) = false
makes_code (MapAt lo len Exec bytes) = true
makes_code (UnmapAt lo len) = false
makes_code (DescAt index base) = false

-- the first address of the range that fails a test
abbrev pub first_touched : (ℕ → Bool) → Effect → Option ℕ
first_touched test e = first_failing test (effect_lo e) (effect_len e)

abbrev pub unmapped : Memory → Effect → Option ℕ
unmapped m (WriteAt lo bytes) = first_touched (is_mapped m) (WriteAt lo bytes)
unmapped m (MapAt lo len mode bytes) = None
unmapped m (UnmapAt lo len) = first_touched (is_mapped m) (UnmapAt lo len)
unmapped m (DescAt index base) = None

abbrev pub unwritable : Memory → Effect → Option ℕ
unwritable m (WriteAt lo bytes) = first_touched (is_writable m) (WriteAt lo bytes)
unwritable m (MapAt lo len mode bytes) = None
unwritable m (UnmapAt lo len) = None
unwritable m (DescAt index base) = None

abbrev pub refused_access : Option ℕ → Option ℕ → Option Refusal
refused_access None None = None
refused_access None (Some b) = Some (NotWritable b)
refused_access (Some a) b = Some (NotMapped a)

-- the first reason to refuse an effect, or none
abbrev pub refusal_of : Memory → Effect → Option Refusal
refusal_of m e =
    if makes_code e || is_some (first_touched (λ a. not (is_executable m a)) e) then Some Executable
    else refused_access (unmapped m e) (unwritable m e)

abbrev pub is_write_mode : Mode → Bool
is_write_mode Read = false
is_write_mode Write = true
is_write_mode Exec = false

abbrev pub is_exec_mode : Mode → Bool
is_exec_mode Read = false
is_exec_mode Write = false
is_exec_mode Exec = true

-- memory after an effect that is not refused; a new cell has its byte, or 0 past the bytes
unfoldable pub applied : Memory → Effect → Memory
applied m (WriteAt lo bytes) a = put m lo bytes a
applied m (MapAt lo len mode bytes) a =
    if within lo len a then Some (record { byte = slice_index bytes (a - lo); write = is_write_mode mode; exec = is_exec_mode mode }) else m a
applied m (UnmapAt lo len) a = if within lo len a then None else m a
applied m (DescAt index base) a = m a

-- what effects in their order come to; those before a refused one stand
pub data Applied : Type 0 where
  AllApplied : (m : Memory) → Applied
  RefusedAt : (why : Refusal) (m : Memory) → Applied

abbrev pub apply_next : Option Refusal → Memory → Applied → Applied
apply_next None m rest = rest
apply_next (Some why) m rest = RefusedAt why m

abbrev pub apply_all : Memory → List Effect → Applied
apply_all m [] = AllApplied m
apply_all m (e ∷ es) = apply_next (refusal_of m e) m (apply_all (applied m e) es)

-- ---- descriptors

-- a finite map from indexes to bases, as pairs: no index stands twice
abbrev pub Descs : Type 0
Descs = List (ℕ × ℕ)

-- an index's base, where it has one
abbrev pub base_at : Descs → ℕ → Option ℕ
base_at [] index = None
base_at (d ∷ ds) index = if d.0 == index then Some d.1 else base_at ds index

-- an index gets a base, in place of an older one
abbrev pub with_base : Descs → ℕ → ℕ → Descs
with_base [] index base = (index, base) ∷ []
with_base (d ∷ ds) index base = if d.0 == index then (index, base) ∷ ds else d ∷ with_base ds index base

abbrev pub described : Descs → Effect → Descs
described ds (WriteAt lo bytes) = ds
described ds (MapAt lo len mode bytes) = ds
described ds (UnmapAt lo len) = ds
described ds (DescAt index base) = with_base ds index base

-- the descriptors after effects in their order, up to a refused one
abbrev pub describe_next : Option Refusal → Descs → Descs → Descs
describe_next None ds rest = rest
describe_next (Some why) ds rest = ds

abbrev pub describe_all : Memory → List Effect → Descs → Descs
describe_all m [] ds = ds
describe_all m (e ∷ es) ds = describe_next (refusal_of m e) ds (describe_all (applied m e) es (described ds e))

-- how many of the effects are descriptors, and how many the answers have
abbrev pub is_descriptor : Effect → Bool
is_descriptor (WriteAt lo bytes) = false
is_descriptor (MapAt lo len mode bytes) = false
is_descriptor (UnmapAt lo len) = false
is_descriptor (DescAt index base) = true

abbrev pub effects_in : Answer → List Effect
effects_in (Ret eax effects) = effects
effects_in Gone = []
effects_in (Cpuid eax ebx ecx edx) = []

abbrev pub descriptors_in : List Answer → ℕ
descriptors_in [] = 0
descriptors_in (a ∷ answers) = count_by is_descriptor (effects_in a) + descriptors_in answers
