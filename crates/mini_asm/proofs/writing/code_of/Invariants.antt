use Rattle.std.proofs.Common.{◌≡◌, take}
use Rattle.std.specs.List.{flat_map}
use Rattle.mini_asm.specs.declared.listings.Listed.{Listed}
use Rattle.mini_asm.proofs.writing.code_of.Given as goal

abbrev pub invariant-loop-line : goal.invariant-loop-line
invariant-loop-line l = l.code.items ≡ flat_map (λ (x : Listed). x.bytes) (take l.line-index l.lines)
