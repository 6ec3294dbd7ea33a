use Rattle.std.proofs.Common.{◌≡◌, ◌+◌, ◌++◌, length, drop}
use Rattle.elf32_read.specs.Runs.{code_of}
use Rattle.image_layout.specs.Rules.{both}
use Rattle.image_layout.specs.Layout.{moved}
use Rattle.image_layout.specs.Parts.{link_parts, parts_len, placed}
use Rattle.image_layout.specs.Pieces.{counters, code_lens, part_bytes, bytes_of}
use Rattle.image_layout.proofs.code.put_chain.Given as goal

abbrev pub invariant-loop-link : goal.invariant-loop-link
invariant-loop-link g l = record {
  whole : l.code.items ++ bytes_of (part_bytes l.anchors (moved l.table.pairs) (code_of l.runs) (counters (both l.hooks l.edges) l.anchors l.sites) l.sites) (placed (code_lens (both l.hooks l.edges) l.sites) (l.anchors.stub + length l.code.items) (link_parts (drop l.link-index l.link-items) l.chain.next))
      ≡ l.fn.code.items ++ bytes_of (part_bytes l.anchors (moved l.table.pairs) (code_of l.runs) (counters (both l.hooks l.edges) l.anchors l.sites) l.sites) (placed (code_lens (both l.hooks l.edges) l.sites) (l.anchors.stub + length l.fn.code.items) (link_parts l.link-items l.chain.next));
  room : length l.code.items + parts_len (code_lens (both l.hooks l.edges) l.sites) (link_parts (drop l.link-index l.link-items) l.chain.next) ≡ length l.fn.code.items + parts_len (code_lens (both l.hooks l.edges) l.sites) (link_parts l.link-items l.chain.next);
}
