use Rattle.std.proofs.Common.{◌≡◌, ◌+◌, drop}
use Rattle.image_layout.specs.Parts.{link_parts, parts_len}
use Rattle.image_layout.proofs.places.chain_len.Given as goal

abbrev pub invariant-loop-link : goal.invariant-loop-link
invariant-loop-link l =
    l.len + parts_len l.lens (link_parts (drop l.link-index l.link-items) l.chain.next) ≡ parts_len l.lens (link_parts l.link-items l.chain.next)
