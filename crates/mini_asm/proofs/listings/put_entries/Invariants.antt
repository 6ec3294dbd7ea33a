use Rattle.std.proofs.Common.{◌≡◌, ◌++◌, take}
use Rattle.mini_asm.specs.Listings.{listing_of}
use Rattle.mini_asm.proofs.listings.put_entries.Given as goal

abbrev pub invariant-loop-line : goal.invariant-loop-line
invariant-loop-line l = l.to.items ≡ l.fn.to.items ++ listing_of (take l.line-index l.lines)
