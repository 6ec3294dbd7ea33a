-- The one output of an input and rules of what is counted. This project's own.
use Rattle.std.specs.Prelude.{ℕ, List, Option}
use Rattle.std.specs.Option.{option_map}
use Rattle.elf32_write.specs.File.{file_of}
use Rattle.image_layout.specs.Rules.{Rules}
use Rattle.mv_rewrite.specs.Layout.{base_of, plan_at}

-- the output for a block at this base
abbrev pub output_at : List ℕ → Rules → ℕ → List ℕ
output_at b rules base = file_of b (plan_at b rules base)

-- the output, where there is room for the block
unfoldable pub output : List ℕ → Rules → Option (List ℕ)
output b rules = option_map (output_at b rules) (base_of b rules)
