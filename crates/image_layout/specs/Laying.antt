-- What laying out gives. This project's own.
use Rattle.std.specs.Prelude.{◌≡◌, List, Some, None, Result, Ok, Err}
use Rattle.elf32_read.specs.declared.image.Image.{Image}
use Rattle.elf32_read.specs.declared.run.Run.{Run}
use Rattle.elf32_write.specs.declared.plan.Plan.{Plan}
use Rattle.image_layout.specs.Rules.{Rules}
use Rattle.superset.specs.declared.site.Site.{Site}
use Rattle.sequence_join.specs.Chains.{Chain}
use Rattle.image_layout.specs.declared.layout.LayFault.{LayFault}
use Rattle.image_layout.specs.declared.layout.LayFault.TheVariants.{NoRoom, NoMemory}
use Rattle.image_layout.specs.Fit.{first_fit}
use Rattle.image_layout.specs.Layout.{size, plan}

-- the one plan by rules for an image with these runs, sites and chains: its block lies at the lowest place that has room,
-- and has what is laid there
pub record IsLaid (image : Image) (rules : Rules) (rs : List Run) (ss : List Site) (cs : List Chain) (p : Plan) : Type 0 where
  pub base_is : first_fit image.segments (size rules rs ss cs) ≡ Some p.base
  pub plan_is : p ≡ plan image.entry rules rs ss cs p.base

-- the plan, or the size of the block where no place has room for it
abbrev pub LaysOut : Image → Rules → List Run → List Site → List Chain → Result Plan LayFault → Type 0
LaysOut image rules rs ss cs (Ok p) = IsLaid image rules rs ss cs p
LaysOut image rules rs ss cs (Err (NoRoom n)) = (first_fit image.segments (size rules rs ss cs) ≡ None) × (n ≡ size rules rs ss cs)
LaysOut image rules rs ss cs (Err NoMemory) = Unit {0}
