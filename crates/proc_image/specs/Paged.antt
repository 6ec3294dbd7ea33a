-- Memory as pages, and the cells that they have. This project's own; a directory of tables of pages is that of i386 (Intel SDM, volume 3, chapter 4).
use Rattle.std.specs.Prelude.{◌≡◌, ℕ, ◌/◌, ◌%◌, ◌≤◌, ◌==◌, List, [], Bool, length, Option, None, is_some, nat_lt, slice_index_or, if◌then◌else◌}
use Rattle.mv_base.specs.Memory.{Cell, Memory, exec_byte_of}
use Rattle.proc_image.specs.declared.memory.Memory.{Memory as Pages}

-- the cells of a page, of which one that is not there has none
abbrev pub Page : Type 0
Page = List (Option Cell)

-- a place of a page has a cell
abbrev pub is_mapped_in : Page → ℕ → Bool
is_mapped_in page k = is_some (slice_index_or page k None)

-- what a place of a page has to execute
abbrev pub exec_byte_in : Page → ℕ → Option ℕ
exec_byte_in page k = exec_byte_of (slice_index_or page k None)

-- the page with a number, in a directory of tables
unfoldable pub page_in : List (List Page) → ℕ → Page
page_in directory p = slice_index_or (slice_index_or directory (p / 1024) []) (p % 1024) []

-- the cell at an address: place a % 4096 of page a / 4096
unfoldable pub cell_in : List (List Page) → Memory
cell_in directory a = if nat_lt a 0xFFFFF000 then slice_index_or (page_in directory (a / 4096)) (a % 4096) None else None

-- the table with a number
unfoldable pub table_of : Pages → ℕ → List Page
table_of m i = slice_index_or m.directory.items i []

-- the page with a number
unfoldable pub page_of : Pages → ℕ → Page
page_of m p = page_in m.directory.items p

-- the cells of a memory
unfoldable pub cells : Pages → Memory
cells m a = cell_in m.directory.items a

-- a page with the same cells, and at least as much room
pub record IsLonger (old new : Page) : Type 0 where
  pub same : (k : ℕ) → slice_index_or new k None ≡ slice_index_or old k None
  pub longer : length old ≤ length new

-- memory with another cell, or none, at an address
abbrev pub with_cell : Memory → ℕ → Option Cell → Memory
with_cell m at cell a = if a == at then cell else m a
