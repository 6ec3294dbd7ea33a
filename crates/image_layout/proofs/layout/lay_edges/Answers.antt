-- The block lies at the first place that has room, or none has.
use Rattle.std.proofs.Common.{◌≡◌, ℕ, ◌+◌, List, ap, sym, ◌∙◌, subst, arith}
use Rattle.map_table.specs.Pairs.{Ascend}
use Rattle.map_table.specs.Paged.{table_size}
use Rattle.image_layout.specs.Rules.{both}
use Rattle.image_layout.specs.Fit.{first_fit}
use Rattle.image_layout.specs.Layout.{size}
use Rattle.image_layout.specs.laws.SiteFacts.{are_short}
use Rattle.elf32_write.specs.Frame.{AscendPairs}
use Rattle.image_layout.specs.laws.Counters.{listed_ascend, listed_count}
use Rattle.image_layout.specs.laws.LayFacts.{AreLaid, ascend, count, listed_few, size_is}
use Rattle.image_layout.proofs.Laying.{lens_below, lens_small, lens_room, counted_is}
use Rattle.image_layout.proofs.layout.lay_edges.Goals as goal

pub measure-requires-clause-short : goal.measure-requires-clause-short
measure-requires-clause-short g c =
    are_short c.args.runs.now c.args.sites.now c.requires.sites

pub measure-requires-clause-few : goal.measure-requires-clause-few
measure-requires-clause-few g c =
    let is : AreLaid c.args.runs.now c.args.sites.now c.args.chains.now = record { runs = c.requires.runs; sites = c.requires.sites; once = c.requires.once; linked = c.requires.linked } in
    omega (arith, count c.args.runs.now c.args.sites.now c.args.chains.now is)

pub chains_len-chains_len-requires-clause-below : goal.chains_len-chains_len-requires-clause-below
chains_len-chains_len-requires-clause-below g c =
    let is : AreLaid c.args.runs.now c.args.sites.now c.args.chains.now = record { runs = c.requires.runs; sites = c.requires.sites; once = c.requires.once; linked = c.requires.linked } in
    lens_below (both c.args.hooks.now c.args.edges.now) c.args.runs.now c.args.sites.now c.args.chains.now c.as_slice.result.now is (c.as_slice.ensures ∙ c.in_ok-measured.ensures.lens)

pub chains_len-chains_len-requires-clause-room : goal.chains_len-chains_len-requires-clause-room
chains_len-chains_len-requires-clause-room g c =
    let is : AreLaid c.args.runs.now c.args.sites.now c.args.chains.now = record { runs = c.requires.runs; sites = c.requires.sites; once = c.requires.once; linked = c.requires.linked } in
    omega (arith, lens_small (both c.args.hooks.now c.args.edges.now) c.args.runs.now c.args.sites.now c.args.chains.now c.as_slice.result.now is (c.as_slice.ensures ∙ c.in_ok-measured.ensures.lens))

pub overflow_add-code_len : goal.overflow_add-code_len
overflow_add-code_len g c =
    let is : AreLaid c.args.runs.now c.args.sites.now c.args.chains.now = record { runs = c.requires.runs; sites = c.requires.sites; once = c.requires.once; linked = c.requires.linked } in
    omega (arith, c.stub_len.ensures, c.requires.runs.few, c.chains_len-chains_len.ensures, lens_small (both c.args.hooks.now c.args.edges.now) c.args.runs.now c.args.sites.now c.args.chains.now c.as_slice.result.now is (c.as_slice.ensures ∙ c.in_ok-measured.ensures.lens))

pub table_len-requires-clause-ascend : goal.table_len-requires-clause-ascend
table_len-requires-clause-ascend g c =
    let is : AreLaid c.args.runs.now c.args.sites.now c.args.chains.now = record { runs = c.requires.runs; sites = c.requires.sites; once = c.requires.once; linked = c.requires.linked } in
    subst (λ (l : List ℕ). Ascend 0 l) (sym (c.as_slice-2.ensures ∙ c.in_ok-measured.ensures.addresses)) (ascend c.args.runs.now c.args.sites.now c.args.chains.now is)

pub up-requires : goal.up-requires
up-requires g c =
    let is : AreLaid c.args.runs.now c.args.sites.now c.args.chains.now = record { runs = c.requires.runs; sites = c.requires.sites; once = c.requires.once; linked = c.requires.linked } in
    omega (arith, c.stub_len.ensures, c.requires.runs.few, c.chains_len-chains_len.ensures, lens_small (both c.args.hooks.now c.args.edges.now) c.args.runs.now c.args.sites.now c.args.chains.now c.as_slice.result.now is (c.as_slice.ensures ∙ c.in_ok-measured.ensures.lens))

pub overflow_add-table_len : goal.overflow_add-table_len
overflow_add-table_len g c =
    let is : AreLaid c.args.runs.now c.args.sites.now c.args.chains.now = record { runs = c.requires.runs; sites = c.requires.sites; once = c.requires.once; linked = c.requires.linked } in
    omega (arith, c.from.type_inv, c.len-counters.ensures, listed_count (both c.args.hooks.now c.args.edges.now) c.args.sites.now _ c.in_ok-measured.ensures.counted, listed_few (both c.args.hooks.now c.args.edges.now) c.args.runs.now c.args.sites.now c.args.chains.now is)

pub up-requires-2 : goal.up-requires-2
up-requires-2 g c =
    let is : AreLaid c.args.runs.now c.args.sites.now c.args.chains.now = record { runs = c.requires.runs; sites = c.requires.sites; once = c.requires.once; linked = c.requires.linked } in
    omega (arith, c.from.type_inv, c.len-counters.ensures, listed_count (both c.args.hooks.now c.args.edges.now) c.args.sites.now _ c.in_ok-measured.ensures.counted, listed_few (both c.args.hooks.now c.args.edges.now) c.args.runs.now c.args.sites.now c.args.chains.now is)

pub overflow_add-size : goal.overflow_add-size
overflow_add-size g c =
    let is : AreLaid c.args.runs.now c.args.sites.now c.args.chains.now = record { runs = c.requires.runs; sites = c.requires.sites; once = c.requires.once; linked = c.requires.linked } in
    omega (arith, c.up.ensures, c.up-2.ensures, c.stub_len.ensures, c.requires.runs.few, c.chains_len-chains_len.ensures, lens_small (both c.args.hooks.now c.args.edges.now) c.args.runs.now c.args.sites.now c.args.chains.now c.as_slice.result.now is (c.as_slice.ensures ∙ c.in_ok-measured.ensures.lens), c.from.type_inv, c.len-counters.ensures, listed_count (both c.args.hooks.now c.args.edges.now) c.args.sites.now _ c.in_ok-measured.ensures.counted, listed_few (both c.args.hooks.now c.args.edges.now) c.args.runs.now c.args.sites.now c.args.chains.now is)

pub overflow_add-counters : goal.overflow_add-counters
overflow_add-counters g c =
    let is : AreLaid c.args.runs.now c.args.sites.now c.args.chains.now = record { runs = c.requires.runs; sites = c.requires.sites; once = c.requires.once; linked = c.requires.linked } in
    omega (arith, c.len-counters.ensures, listed_count (both c.args.hooks.now c.args.edges.now) c.args.sites.now _ c.in_ok-measured.ensures.counted, listed_few (both c.args.hooks.now c.args.edges.now) c.args.runs.now c.args.sites.now c.args.chains.now is)

pub up-requires-3 : goal.up-requires-3
up-requires-3 g c =
    let is : AreLaid c.args.runs.now c.args.sites.now c.args.chains.now = record { runs = c.requires.runs; sites = c.requires.sites; once = c.requires.once; linked = c.requires.linked } in
    omega (arith, c.len-counters.ensures, listed_count (both c.args.hooks.now c.args.edges.now) c.args.sites.now _ c.in_ok-measured.ensures.counted, listed_few (both c.args.hooks.now c.args.edges.now) c.args.runs.now c.args.sites.now c.args.chains.now is)

pub overflow_add-size-2 : goal.overflow_add-size-2
overflow_add-size-2 g c =
    let is : AreLaid c.args.runs.now c.args.sites.now c.args.chains.now = record { runs = c.requires.runs; sites = c.requires.sites; once = c.requires.once; linked = c.requires.linked } in
    omega (arith, c.up.ensures, c.up-2.ensures, c.up-3.ensures, c.stub_len.ensures, c.requires.runs.few, c.chains_len-chains_len.ensures, lens_small (both c.args.hooks.now c.args.edges.now) c.args.runs.now c.args.sites.now c.args.chains.now c.as_slice.result.now is (c.as_slice.ensures ∙ c.in_ok-measured.ensures.lens), c.from.type_inv, c.len-counters.ensures, listed_count (both c.args.hooks.now c.args.edges.now) c.args.sites.now _ c.in_ok-measured.ensures.counted, listed_few (both c.args.hooks.now c.args.edges.now) c.args.runs.now c.args.sites.now c.args.chains.now is)

pub lay_at-requires-clause-base_is : goal.lay_at-requires-clause-base_is
lay_at-requires-clause-base_is g c =
    let is : AreLaid c.args.runs.now c.args.sites.now c.args.chains.now = record { runs = c.requires.runs; sites = c.requires.sites; once = c.requires.once; linked = c.requires.linked } in
    let len = lens_room (both c.args.hooks.now c.args.edges.now) c.args.chains.now c.args.sites.now c.as_slice.result.now (c.as_slice.ensures ∙ c.in_ok-measured.ensures.lens) in
    let table = ap (table_size c.args.runs.now) (c.as_slice-2.ensures ∙ c.in_ok-measured.ensures.addresses) in
    let same : c.up.result + c.up-2.result + c.up-3.result ≡ size (both c.args.hooks.now c.args.edges.now) c.args.runs.now c.args.sites.now c.args.chains.now = omega (arith, size_is (both c.args.hooks.now c.args.edges.now) c.args.runs.now c.args.sites.now c.args.chains.now is, c.up.ensures, c.up-2.ensures, c.up-3.ensures, c.stub_len.ensures, c.chains_len-chains_len.ensures, len, c.from.ensures, c.table_len.ensures, table, c.len-counters.ensures, listed_count (both c.args.hooks.now c.args.edges.now) c.args.sites.now _ c.in_ok-measured.ensures.counted) in
    ap (first_fit c.args.image.now.segments) (sym same) ∙ sym c.in-Some.ensures

pub returns-in_ok-plan-in-Some-clause-ascends : goal.returns-in_ok-plan-in-Some-clause-ascends
returns-in_ok-plan-in-Some-clause-ascends g c =
    let is : AreLaid c.args.runs.now c.args.sites.now c.args.chains.now = record { runs = c.requires.runs; sites = c.requires.sites; once = c.requires.once; linked = c.requires.linked } in
    subst AscendPairs (sym (counted_is c.args.image.now.entry (both c.args.hooks.now c.args.edges.now) c.args.runs.now c.args.sites.now c.args.chains.now c.in_ok-plan-in-Some.plan c.in_ok-plan-in-Some.ensures.laid.plan_is)) (listed_ascend (both c.args.hooks.now c.args.edges.now) c.args.sites.now (ascend c.args.runs.now c.args.sites.now c.args.chains.now is))

pub returns-in-None-clause-laid : goal.returns-in-None-clause-laid
returns-in-None-clause-laid g c =
    let is : AreLaid c.args.runs.now c.args.sites.now c.args.chains.now = record { runs = c.requires.runs; sites = c.requires.sites; once = c.requires.once; linked = c.requires.linked } in
    let len = lens_room (both c.args.hooks.now c.args.edges.now) c.args.chains.now c.args.sites.now c.as_slice.result.now (c.as_slice.ensures ∙ c.in_ok-measured.ensures.lens) in
    let table = ap (table_size c.args.runs.now) (c.as_slice-2.ensures ∙ c.in_ok-measured.ensures.addresses) in
    let same : c.up.result + c.up-2.result + c.up-3.result ≡ size (both c.args.hooks.now c.args.edges.now) c.args.runs.now c.args.sites.now c.args.chains.now = omega (arith, size_is (both c.args.hooks.now c.args.edges.now) c.args.runs.now c.args.sites.now c.args.chains.now is, c.up.ensures, c.up-2.ensures, c.up-3.ensures, c.stub_len.ensures, c.chains_len-chains_len.ensures, len, c.from.ensures, c.table_len.ensures, table, c.len-counters.ensures, listed_count (both c.args.hooks.now c.args.edges.now) c.args.sites.now _ c.in_ok-measured.ensures.counted) in
    (ap (first_fit c.args.image.now.segments) (sym same) ∙ sym c.in-None.ensures, same)
