-- What rewriting a file gives. This project's own.
use Rattle.std.specs.Prelude.{◌≡◌, ℕ, List, length, Some, None, Result, Ok, Err}
use Rattle.elf32_read.specs.Faults.{refusal}
use Rattle.image_layout.specs.Rules.{Rules}
use Rattle.image_layout.specs.declared.layout.LayFault.{LayFault}
use Rattle.image_layout.specs.declared.layout.LayFault.TheVariants as lay_fault
use Rattle.mv_rewrite.specs.declared.rewriting.Rewritten.{Rewritten}
use Rattle.mv_rewrite.specs.declared.rewriting.RewriteFault.{RewriteFault}
use Rattle.mv_rewrite.specs.declared.rewriting.RewriteFault.TheVariants.{Image, NoRoom, NoMemory}
use Rattle.mv_rewrite.specs.Sites.{sites}
use Rattle.mv_rewrite.specs.Layout.{base_of, size, listed_at}
use Rattle.mv_rewrite.specs.Output.{output}

-- the answer where a file wasn't laid out
abbrev pub laid_fault : LayFault → RewriteFault
laid_fault (lay_fault.NoRoom n) = NoRoom n
laid_fault lay_fault.NoMemory = NoMemory

-- the one output of a file without a fault and rules, the number of its sites, the added range, and the number of counters
pub record IsOutput (b : List ℕ) (rules : Rules) (r : Rewritten) : Type 0 where
  pub whole : refusal b ≡ None
  pub bytes : output b rules ≡ Some r.bytes
  pub site_count : r.sites ≡ length (sites b)
  pub added_lo : base_of b rules ≡ Some r.added.lo
  pub added_len : r.added.len ≡ size b rules
  pub counter_count : r.counters ≡ length (listed_at b rules)

-- a file without a fault whose addresses have no room for its block, which has this size
pub record LacksRoom (b : List ℕ) (rules : Rules) (n : ℕ) : Type 0 where
  pub whole : refusal b ≡ None
  pub full : base_of b rules ≡ None
  pub size_is : n ≡ size b rules

-- the one output of a file and rules, or the file's first fault, or the size of the block that found no room
abbrev pub IsRewritten : List ℕ → Rules → Result Rewritten RewriteFault → Type 0
IsRewritten b rules (Ok r) = IsOutput b rules r
IsRewritten b rules (Err (Image f)) = refusal b ≡ Some f
IsRewritten b rules (Err (NoRoom n)) = LacksRoom b rules n
IsRewritten b rules (Err NoMemory) = Unit {0}
