-- What checking two files gives. This project's own.
use Rattle.std.specs.Prelude.{◌≡◌, ℕ, List, length, Option, Some, None, Result, Ok, Err}
use Rattle.elf32_read.specs.Faults.{refusal}
use Rattle.elf32_write.specs.Frame.{Frame, frame}
use Rattle.elf32_read.specs.Runs.{runs_of}
use Rattle.superset.specs.Sites.{sites_in}
use Rattle.simulation_laws.specs.Code.{code_in}
use Rattle.pair_check.specs.declared.checking.CheckFault.{CheckFault}
use Rattle.pair_check.specs.declared.checking.CheckFault.TheVariants as fault
use Rattle.pair_check.specs.declared.differs.Differs.{Differs}
use Rattle.pair_check.specs.Parts.{differs}

-- an input without a fault and a file with a frame: what is wrong first
pub record Compares (b x : List ℕ) (o : Option Differs) : Type 0 where
  pub whole : refusal b ≡ None
  pub found : Frame
  pub framed : frame x ≡ Some found
  pub differs_so : differs b x found ≡ o

-- nothing is wrong, and this many sites were looked at
pub record IsAlike (b x : List ℕ) (n : ℕ) : Type 0 where
  pub compares : Compares b x None
  pub site_count : n ≡ length (sites_in (code_in b) (runs_of b))

-- a file has no frame, beside an input without a fault
pub record LacksFrame (b x : List ℕ) : Type 0 where
  pub whole : refusal b ≡ None
  pub none : frame x ≡ None

-- the input's first fault, else no frame, else what is wrong first, else the number of sites
abbrev pub IsChecked : List ℕ → List ℕ → Result ℕ CheckFault → Type 0
IsChecked b x (Ok n) = IsAlike b x n
IsChecked b x (Err (fault.Image f)) = refusal b ≡ Some f
IsChecked b x (Err fault.NoFrame) = LacksFrame b x
IsChecked b x (Err (fault.Differs d)) = Compares b x (Some d)
IsChecked b x (Err fault.NoMemory) = Unit {0}
