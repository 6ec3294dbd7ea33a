use Rattle.std.proofs.Common.{◌≡◌, ℕ, ◌+◌, ◌*◌, List, length, ap, sym, ◌∙◌, subst, arith}
use Rattle.mv_base.specs.declared.range.RunPlace.{RunPlace}
use Rattle.elf32_read.specs.Runs.{code_of}
use Rattle.elf32_write.specs.Format.{up}
use Rattle.elf32_write.specs.Written.{up-le}
use Rattle.lookup_stub.specs.laws.StubBytes.{stub_length}
use Rattle.counter_hooks.specs.Rules.{number_of}
use Rattle.edge_hooks.specs.Rules as edges
use Rattle.image_layout.specs.Rules.{both}
use Rattle.image_layout.specs.InPlace.{HasPieces}
use Rattle.image_layout.specs.Layout.{moved, code_len, table_len}
use Rattle.image_layout.specs.laws.Blocks.{length-run_places}
use Rattle.image_layout.specs.laws.SiteFacts.{are_short, are_whole}
use Rattle.image_layout.specs.laws.LayFacts.{AreLaid, has_base, ascend, count, chains_below}
use Rattle.image_layout.specs.laws.InPlacing.{has_pieces}
use Rattle.image_layout.specs.laws.Counters.{listed_count}
use Rattle.image_layout.proofs.Laying.{lens_small, lens_room, made_is, table_is, code_is, has_parts, plan_is}
use Rattle.image_layout.proofs.layout.lay_at.Goals as goal

pub overflow_add-first : goal.overflow_add-first
overflow_add-first g c =
    let is : AreLaid c.args.runs.now c.args.sites.now c.args.chains.now = record { runs = c.requires.runs; sites = c.requires.sites; once = c.requires.once; linked = c.requires.linked } in
    let has = has_base (both c.args.hooks.now c.args.edges.now) c.args.runs.now c.args.sites.now c.args.chains.now is c.args.image.now.segments c.args.base c.requires.base_is in
    omega (arith, c.stub_len-stub_len.ensures, has.low, up-le (code_len (both c.args.hooks.now c.args.edges.now) c.args.runs.now c.args.sites.now c.args.chains.now))

pub entry_pairs-requires-clause-below : goal.entry_pairs-requires-clause-below
entry_pairs-requires-clause-below g c =
    let is : AreLaid c.args.runs.now c.args.sites.now c.args.chains.now = record { runs = c.requires.runs; sites = c.requires.sites; once = c.requires.once; linked = c.requires.linked } in
    chains_below c.args.runs.now c.args.sites.now c.args.chains.now is

pub entry_pairs-requires-clause-room : goal.entry_pairs-requires-clause-room
entry_pairs-requires-clause-room g c =
    let is : AreLaid c.args.runs.now c.args.sites.now c.args.chains.now = record { runs = c.requires.runs; sites = c.requires.sites; once = c.requires.once; linked = c.requires.linked } in
    let has = has_base (both c.args.hooks.now c.args.edges.now) c.args.runs.now c.args.sites.now c.args.chains.now is c.args.image.now.segments c.args.base c.requires.base_is in
    omega (arith, c.stub_len-stub_len.ensures, has.low, lens_room (both c.args.hooks.now c.args.edges.now) c.args.chains.now c.args.sites.now c.as_slice-lens.result.now (c.as_slice-lens.ensures ∙ c.requires.measured.lens), up-le (code_len (both c.args.hooks.now c.args.edges.now) c.args.runs.now c.args.sites.now c.args.chains.now))

pub overflow_add-stub_len : goal.overflow_add-stub_len
overflow_add-stub_len g c =
    let is : AreLaid c.args.runs.now c.args.sites.now c.args.chains.now = record { runs = c.requires.runs; sites = c.requires.sites; once = c.requires.once; linked = c.requires.linked } in
    omega (arith, c.stub_len-stub_len.ensures, c.requires.runs.few, c.requires.chains_len, lens_small (both c.args.hooks.now c.args.edges.now) c.args.runs.now c.args.sites.now c.args.chains.now c.args.measured.lens is c.requires.measured.lens)

pub up-requires : goal.up-requires
up-requires g c =
    let is : AreLaid c.args.runs.now c.args.sites.now c.args.chains.now = record { runs = c.requires.runs; sites = c.requires.sites; once = c.requires.once; linked = c.requires.linked } in
    omega (arith, c.stub_len-stub_len.ensures, c.requires.runs.few, c.requires.chains_len, lens_small (both c.args.hooks.now c.args.edges.now) c.args.runs.now c.args.sites.now c.args.chains.now c.args.measured.lens is c.requires.measured.lens)

pub overflow_cast-lo : goal.overflow_cast-lo
overflow_cast-lo g c =
    let is : AreLaid c.args.runs.now c.args.sites.now c.args.chains.now = record { runs = c.requires.runs; sites = c.requires.sites; once = c.requires.once; linked = c.requires.linked } in
    omega (arith, c.up.ensures, c.stub_len-stub_len.ensures, c.requires.runs.few, c.requires.chains_len, lens_small (both c.args.hooks.now c.args.edges.now) c.args.runs.now c.args.sites.now c.args.chains.now c.args.measured.lens is c.requires.measured.lens)

pub overflow_add-lo : goal.overflow_add-lo
overflow_add-lo g c =
    let is : AreLaid c.args.runs.now c.args.sites.now c.args.chains.now = record { runs = c.requires.runs; sites = c.requires.sites; once = c.requires.once; linked = c.requires.linked } in
    let has = has_base (both c.args.hooks.now c.args.edges.now) c.args.runs.now c.args.sites.now c.args.chains.now is c.args.image.now.segments c.args.base c.requires.base_is in
    omega (arith, c.up.ensures, c.stub_len-stub_len.ensures, c.requires.chains_len, has.low, lens_room (both c.args.hooks.now c.args.edges.now) c.args.chains.now c.args.sites.now c.args.measured.lens c.requires.measured.lens)

pub build-requires : goal.build-requires
build-requires g c =
    let is : AreLaid c.args.runs.now c.args.sites.now c.args.chains.now = record { runs = c.requires.runs; sites = c.requires.sites; once = c.requires.once; linked = c.requires.linked } in
    let has = has_base (both c.args.hooks.now c.args.edges.now) c.args.runs.now c.args.sites.now c.args.chains.now is c.args.image.now.segments c.args.base c.requires.base_is in
    let room_is : c.up.result ≡ up (code_len (both c.args.hooks.now c.args.edges.now) c.args.runs.now c.args.sites.now c.args.chains.now) = omega (arith, c.up.ensures, c.stub_len-stub_len.ensures, c.requires.chains_len, lens_room (both c.args.hooks.now c.args.edges.now) c.args.chains.now c.args.sites.now c.args.measured.lens c.requires.measured.lens) in
    made_is (both c.args.hooks.now c.args.edges.now) c.args.runs.now c.args.sites.now c.args.chains.now is c.args.base c.stub_len-stub_len.result c.up.result c.deref.result.now has c.stub_len-stub_len.ensures (c.deref.ensures.value ∙ c.in_ok-pairs.ensures) room_is

pub overflow_add-table_len : goal.overflow_add-table_len
overflow_add-table_len g c =
    let is : AreLaid c.args.runs.now c.args.sites.now c.args.chains.now = record { runs = c.requires.runs; sites = c.requires.sites; once = c.requires.once; linked = c.requires.linked } in
    let has = has_base (both c.args.hooks.now c.args.edges.now) c.args.runs.now c.args.sites.now c.args.chains.now is c.args.image.now.segments c.args.base c.requires.base_is in
    let table = table_is (both c.args.hooks.now c.args.edges.now) c.args.runs.now c.args.sites.now c.args.chains.now c.args.base c.stub_len-stub_len.result c.up.result c.deref.result.now c.in_ok-table.table c.stub_len-stub_len.ensures (c.deref.ensures.value ∙ c.in_ok-pairs.ensures) c.in_ok-table.ensures in
    omega (arith, c.bytes.ensures.len, table, c.len.ensures, listed_count (both c.args.hooks.now c.args.edges.now) c.args.sites.now _ c.requires.measured.counted, has.low, up-le (table_len (both c.args.hooks.now c.args.edges.now) c.args.runs.now c.args.sites.now))

pub up-requires-2 : goal.up-requires-2
up-requires-2 g c =
    let is : AreLaid c.args.runs.now c.args.sites.now c.args.chains.now = record { runs = c.requires.runs; sites = c.requires.sites; once = c.requires.once; linked = c.requires.linked } in
    let has = has_base (both c.args.hooks.now c.args.edges.now) c.args.runs.now c.args.sites.now c.args.chains.now is c.args.image.now.segments c.args.base c.requires.base_is in
    let table = table_is (both c.args.hooks.now c.args.edges.now) c.args.runs.now c.args.sites.now c.args.chains.now c.args.base c.stub_len-stub_len.result c.up.result c.deref.result.now c.in_ok-table.table c.stub_len-stub_len.ensures (c.deref.ensures.value ∙ c.in_ok-pairs.ensures) c.in_ok-table.ensures in
    omega (arith, c.bytes.ensures.len, table, c.len.ensures, listed_count (both c.args.hooks.now c.args.edges.now) c.args.sites.now _ c.requires.measured.counted, has.low, up-le (table_len (both c.args.hooks.now c.args.edges.now) c.args.runs.now c.args.sites.now))

pub overflow_cast-anchors : goal.overflow_cast-anchors
overflow_cast-anchors g c =
    let is : AreLaid c.args.runs.now c.args.sites.now c.args.chains.now = record { runs = c.requires.runs; sites = c.requires.sites; once = c.requires.once; linked = c.requires.linked } in
    let has = has_base (both c.args.hooks.now c.args.edges.now) c.args.runs.now c.args.sites.now c.args.chains.now is c.args.image.now.segments c.args.base c.requires.base_is in
    let table = table_is (both c.args.hooks.now c.args.edges.now) c.args.runs.now c.args.sites.now c.args.chains.now c.args.base c.stub_len-stub_len.result c.up.result c.deref.result.now c.in_ok-table.table c.stub_len-stub_len.ensures (c.deref.ensures.value ∙ c.in_ok-pairs.ensures) c.in_ok-table.ensures in
    omega (arith, c.up-2.ensures, c.bytes.ensures.len, table, c.len.ensures, listed_count (both c.args.hooks.now c.args.edges.now) c.args.sites.now _ c.requires.measured.counted, has.low)

pub overflow_add-anchors : goal.overflow_add-anchors
overflow_add-anchors g c =
    let is : AreLaid c.args.runs.now c.args.sites.now c.args.chains.now = record { runs = c.requires.runs; sites = c.requires.sites; once = c.requires.once; linked = c.requires.linked } in
    let has = has_base (both c.args.hooks.now c.args.edges.now) c.args.runs.now c.args.sites.now c.args.chains.now is c.args.image.now.segments c.args.base c.requires.base_is in
    let room_is : c.up.result ≡ up (code_len (both c.args.hooks.now c.args.edges.now) c.args.runs.now c.args.sites.now c.args.chains.now) = omega (arith, c.up.ensures, c.stub_len-stub_len.ensures, c.requires.chains_len, lens_room (both c.args.hooks.now c.args.edges.now) c.args.chains.now c.args.sites.now c.args.measured.lens c.requires.measured.lens) in
    let table = table_is (both c.args.hooks.now c.args.edges.now) c.args.runs.now c.args.sites.now c.args.chains.now c.args.base c.stub_len-stub_len.result c.up.result c.deref.result.now c.in_ok-table.table c.stub_len-stub_len.ensures (c.deref.ensures.value ∙ c.in_ok-pairs.ensures) c.in_ok-table.ensures in
    omega (arith, room_is, c.up-2.ensures, c.bytes.ensures.len, table, c.len.ensures, listed_count (both c.args.hooks.now c.args.edges.now) c.args.sites.now _ c.requires.measured.counted, has.low)

pub stub-requires : goal.stub-requires
stub-requires g c =
    omega (arith, c.requires.runs.few, ap (λ (l : List RunPlace). length l) (c.deref-2.ensures.value ∙ c.in_ok-run_places.ensures), length-run_places (c.args.base + c.up.result + 4096) c.args.runs.now)

pub put_chains-requires-clause-short : goal.put_chains-requires-clause-short
put_chains-requires-clause-short g c =
    are_short c.args.runs.now c.args.sites.now c.requires.sites

pub put_chains-requires-clause-whole : goal.put_chains-requires-clause-whole
put_chains-requires-clause-whole g c =
    are_whole c.args.runs.now c.args.sites.now c.requires.sites

pub put_chains-requires-clause-ascend : goal.put_chains-requires-clause-ascend
put_chains-requires-clause-ascend g c =
    let is : AreLaid c.args.runs.now c.args.sites.now c.args.chains.now = record { runs = c.requires.runs; sites = c.requires.sites; once = c.requires.once; linked = c.requires.linked } in
    ascend c.args.runs.now c.args.sites.now c.args.chains.now is

pub put_chains-requires-clause-below : goal.put_chains-requires-clause-below
put_chains-requires-clause-below g c =
    let is : AreLaid c.args.runs.now c.args.sites.now c.args.chains.now = record { runs = c.requires.runs; sites = c.requires.sites; once = c.requires.once; linked = c.requires.linked } in
    chains_below c.args.runs.now c.args.sites.now c.args.chains.now is

pub put_chains-requires-clause-counters : goal.put_chains-requires-clause-counters
put_chains-requires-clause-counters g c =
    let is : AreLaid c.args.runs.now c.args.sites.now c.args.chains.now = record { runs = c.requires.runs; sites = c.requires.sites; once = c.requires.once; linked = c.requires.linked } in
    let has = has_base (both c.args.hooks.now c.args.edges.now) c.args.runs.now c.args.sites.now c.args.chains.now is c.args.image.now.segments c.args.base c.requires.base_is in
    let room_is : c.up.result ≡ up (code_len (both c.args.hooks.now c.args.edges.now) c.args.runs.now c.args.sites.now c.args.chains.now) = omega (arith, c.up.ensures, c.stub_len-stub_len.ensures, c.requires.chains_len, lens_room (both c.args.hooks.now c.args.edges.now) c.args.chains.now c.args.sites.now c.args.measured.lens c.requires.measured.lens) in
    let table = table_is (both c.args.hooks.now c.args.edges.now) c.args.runs.now c.args.sites.now c.args.chains.now c.args.base c.stub_len-stub_len.result c.up.result c.deref.result.now c.in_ok-table.table c.stub_len-stub_len.ensures (c.deref.ensures.value ∙ c.in_ok-pairs.ensures) c.in_ok-table.ensures in
    omega (arith, room_is, c.up-2.ensures, c.bytes.ensures.len, table, c.len.ensures, listed_count (both c.args.hooks.now c.args.edges.now) c.args.sites.now _ c.requires.measured.counted, has.low, count c.args.runs.now c.args.sites.now c.args.chains.now is)

pub put_chains-requires-clause-room : goal.put_chains-requires-clause-room
put_chains-requires-clause-room g c =
    let is : AreLaid c.args.runs.now c.args.sites.now c.args.chains.now = record { runs = c.requires.runs; sites = c.requires.sites; once = c.requires.once; linked = c.requires.linked } in
    let has = has_base (both c.args.hooks.now c.args.edges.now) c.args.runs.now c.args.sites.now c.args.chains.now is c.args.image.now.segments c.args.base c.requires.base_is in
    let there = c.deref-2.ensures.value ∙ c.in_ok-run_places.ensures in
    let front = c.in_ok-reserve.ensures.items ∙ c.in_ok-code.ensures in
    omega (arith, has.low, ap (λ (l : List ℕ). length l) front, stub_length 2 c.deref-2.result.now (c.args.base + c.up.result + c.up-2.result), ap (λ (l : List RunPlace). length l) there, length-run_places (c.args.base + c.up.result + 4096) c.args.runs.now, up-le (code_len (both c.args.hooks.now c.args.edges.now) c.args.runs.now c.args.sites.now c.args.chains.now))

pub returns-clause-laid : goal.returns-clause-laid
returns-clause-laid g c =
    let room_is : c.up.result ≡ up (code_len (both c.args.hooks.now c.args.edges.now) c.args.runs.now c.args.sites.now c.args.chains.now) = omega (arith, c.up.ensures, c.stub_len-stub_len.ensures, c.requires.chains_len, lens_room (both c.args.hooks.now c.args.edges.now) c.args.chains.now c.args.sites.now c.args.measured.lens c.requires.measured.lens) in
    let there = c.deref-2.ensures.value ∙ c.in_ok-run_places.ensures in
    let front = c.in_ok-reserve.ensures.items ∙ c.in_ok-code.ensures in
    let list = c.len.ensures ∙ listed_count (both c.args.hooks.now c.args.edges.now) c.args.sites.now _ c.requires.measured.counted in
    let private_is = c.up-2.ensures ∙ (λ i. up (c.bytes.ensures.len i + 8 * list i)) in
    let code = code_is (both c.args.hooks.now c.args.edges.now) _ (moved c.in_ok-table.table.pairs) (code_of c.args.runs.now) c.deref-2.result.now c.args.sites.now c.args.chains.now c.reserve.new.self.items c.put_chains.new.code.items front c.in_ok-put_chains.ensures in
    record {
      base_is = c.requires.base_is;
      plan_is = plan_is c.args.image.now.entry (both c.args.hooks.now c.args.edges.now) c.args.runs.now c.args.sites.now c.args.chains.now _
          (has_parts c.args.image.now.entry (both c.args.hooks.now c.args.edges.now) c.args.runs.now c.args.sites.now c.args.chains.now _ c.stub_len-stub_len.result c.up.result c.up-2.result c.in_ok-table.table c.deref.result.now c.deref-2.result.now
          c.stub_len-stub_len.ensures room_is (c.deref.ensures.value ∙ c.in_ok-pairs.ensures) c.in_ok-table.ensures there private_is
          (c.new.ensures ∙ code) c.into_bytes.ensures c.requires.measured.counted (c.new-2.ensures ∙ sym c.deref-2.ensures.value) c.moved-entry.ensures (c.rule_number.ensures ∙ ap number_of c.rule.ensures.is) (c.edge_number.ensures ∙ ap edges.number_of c.rule-2.ensures.is));
    }

pub returns-clause-in_place : goal.returns-clause-in_place
returns-clause-in_place g c =
    let is : AreLaid c.args.runs.now c.args.sites.now c.args.chains.now = record { runs = c.requires.runs; sites = c.requires.sites; once = c.requires.once; linked = c.requires.linked } in
    let has = has_base (both c.args.hooks.now c.args.edges.now) c.args.runs.now c.args.sites.now c.args.chains.now is c.args.image.now.segments c.args.base c.requires.base_is in
    subst (HasPieces (both c.args.hooks.now c.args.edges.now) c.args.runs.now c.args.sites.now c.args.chains.now) (sym (returns-clause-laid g c).plan_is) (has_pieces (both c.args.hooks.now c.args.edges.now) c.args.runs.now c.args.sites.now c.args.chains.now is c.args.base has c.args.image.now.entry)
