-- What loading an image gives. This project's own.
use Rattle.std.specs.Prelude.{◌≡◌, ℕ, ◌+◌, ◌<◌, ◌≤◌, List, [], ◌∷◌, Result, Ok, Err}
use Rattle.elf32_read.specs.declared.image.Segment.{Segment}
use Rattle.elf32_read.specs.Load.{load}
use Rattle.proc_image.specs.declared.loading.LoadFault.{LoadFault}
use Rattle.proc_image.specs.declared.loading.LoadFault.TheVariants.{TooLarge, NoMemory}
use Rattle.proc_image.specs.declared.memory.Memory.{Memory as Pages}
use Rattle.proc_image.specs.Counting.{mapped_size}
use Rattle.proc_image.specs.Paged.{cells}

-- the bytes of the image's pages that hold a mapped byte, and of the stack's pages
abbrev pub loaded_size : List ℕ → ℕ
loaded_size b = mapped_size (load b) + 1048576

-- the memory has the cells of the file
pub record IsMemoryOf (b : List ℕ) (m : Pages) : Type 0 where
  pub limit : loaded_size b ≤ 67108864
  pub loaded : cells m ≡ load b

-- the file's memory and a stack would have more bytes than are allowed
pub record IsTooLarge (b : List ℕ) (n : ℕ) : Type 0 where
  pub size : n ≡ loaded_size b
  pub above : 67108864 < n

abbrev pub IsLoaded : List ℕ → Result Pages LoadFault → Type 0
IsLoaded b (Ok m) = IsMemoryOf b m
IsLoaded b (Err (TooLarge n)) = IsTooLarge b n
IsLoaded b (Err NoMemory) = loaded_size b ≤ 67108864

-- segments that ascend from an address on and don't meet, all below the first address that no memory has
abbrev pub AreAscending : ℕ → List Segment → Type 0
AreAscending from [] = Unit {0}
AreAscending from (s ∷ ss) = (from ≤ s.range.lo) × (0 < s.range.len) × (s.range.lo + s.range.len ≤ 0xFFFFF000) × AreAscending (s.range.lo + s.range.len) ss
