use Rattle.std.proofs.Common.{◌≡◌, ℕ, ◌+◌, ◌<◌, ◌++◌, List, length, get_or, refl, ap, sym, ◌∙◌, subst, arith}
use Rattle.std.specs.List.{All}
use Rattle.std.proofs.lemmas.List.{length-append}
use Rattle.std.proofs.lemmas.Result.{on_ok_weaker}
use Rattle.step_laws.specs.laws.NearJump.{jump_len}
use Rattle.elf32_read.specs.Runs.{code_of}
use Rattle.image_layout.specs.Rules.{both}
use Rattle.image_layout.specs.Layout.{moved}
use Rattle.image_layout.specs.Parts.{Piece, link_parts, parts_len, placed}
use Rattle.image_layout.specs.Pieces.{counters, code_lens, part_bytes, bytes_of}
use Rattle.image_layout.specs.Sites.{IsShort, IsWhole}
use Rattle.image_layout.proofs.Steps.{links_step, links_end, join_some}
use Rattle.image_layout.proofs.Putting.{put_link, put_join, put_nothing, there_is, rank_low, only_branches, counter_low, site_bytes, sized_parts}
use Rattle.image_layout.proofs.code.put_chain.Goals as goal

pub places_of-places-requires : goal.places_of-places-requires
places_of-places-requires g c =
    let low = subst (λ (l : List ℕ). All (λ k. k < length c.args.sites.now) l) (sym c.links-link-items.ensures) c.requires.below in
    omega (arith, c.requires.counters, rank_low (both c.args.hooks.now c.args.edges.now) c.args.sites.now c.args.ranks.now _ c.requires.ranks (low c.loop-link.link-index 0 c.loop-link-test.true))

pub put_site-requires-clause-short : goal.put_site-requires-clause-short
put_site-requires-clause-short g c =
    let low = subst (λ (l : List ℕ). All (λ k. k < length c.args.sites.now) l) (sym c.links-link-items.ensures) c.requires.below in
    there_is IsShort c.args.sites.now _ _ (low c.loop-link.link-index 0 c.loop-link-test.true) (c.requires.short _)

pub put_site-requires-clause-whole : goal.put_site-requires-clause-whole
put_site-requires-clause-whole g c =
    let low = subst (λ (l : List ℕ). All (λ k. k < length c.args.sites.now) l) (sym c.links-link-items.ensures) c.requires.below in
    there_is (IsWhole (code_of c.args.runs.now)) c.args.sites.now _ _ (low c.loop-link.link-index 0 c.loop-link-test.true) (c.requires.whole _)

pub put_site-requires-clause-branches : goal.put_site-requires-clause-branches
put_site-requires-clause-branches g c =
    let low = subst (λ (l : List ℕ). All (λ k. k < length c.args.sites.now) l) (sym c.links-link-items.ensures) c.requires.below in
    only_branches (both c.args.hooks.now c.args.edges.now) c.args.anchors c.args.sites.now c.requires.ascend c.args.ranks.now c.requires.ranks _ _ (low c.loop-link.link-index 0 c.loop-link-test.true) c.places_of-places.result.all c.places_of-places.result.ways c.places_of-places.ensures.all c.places_of-places.ensures.ways

pub put_site-requires-clause-room : goal.put_site-requires-clause-room
put_site-requires-clause-room g c =
    let lens = code_lens (both c.args.hooks.now c.args.edges.now) c.args.sites.now in
    let next = c.args.chain.now.next in
    let low = subst (λ (l : List ℕ). All (λ k. k < length c.args.sites.now) l) (sym c.links-link-items.ensures) c.requires.below in
    let below = low c.loop-link.link-index 0 c.loop-link-test.true in
    omega (
      arith,
      c.requires.room,
      c.len.ensures,
      c.loop-link.code.ok.0,
      c.loop-link.invariant.room,
      counter_low (both c.args.hooks.now c.args.edges.now) c.args.anchors c.args.sites.now c.requires.ascend c.args.ranks.now c.requires.ranks _ _ below c.places_of-places.result.all c.places_of-places.result.ways c.places_of-places.ensures.all c.places_of-places.ensures.ways,
      links_step lens c.links-link-items.result.now c.loop-link.link-index next c.loop-link-test.true,
      ap (λ (l : List ℕ). parts_len lens (link_parts l next)) c.links-link-items.ensures,
    )

pub loop-link-preserved : goal.loop-link-preserved
loop-link-preserved g c =
    let rules = (both c.args.hooks.now c.args.edges.now) in
    let an = c.args.anchors in
    let ss = c.args.sites.now in
    let lens = code_lens rules ss in
    let ks = c.links-link-items.result.now in
    let i = c.loop-link.link-index in
    let next = c.args.chain.now.next in
    let move : ℕ → ℕ = moved c.args.table.now.pairs in
    let code = code_of c.args.runs.now in
    let bytes = part_bytes an move code (counters rules an ss) ss in
    let low = subst (λ (l : List ℕ). All (λ k. k < length ss) l) (sym c.links-link-items.ensures) c.requires.below in
    let below = low i 0 c.loop-link-test.true in
    let now = c.loop-link.code.items in
    let new = c.put_site.new.code.items in
    let here = an.stub + c.len.result in
    let here_is : here ≡ an.stub + length now = omega (arith, c.len.ensures, c.loop-link.code.ok.0) in
    let own = site_bytes rules an ss c.requires.ascend c.args.ranks.now c.requires.ranks (get_or ks i 0) _ below c.places_of-places.result.all c.places_of-places.result.ways c.places_of-places.ensures.all c.places_of-places.ensures.ways move code here in
    let p = bytes here (Piece (get_or ks i 0)) in
    let new_is : new ≡ now ++ p = c.in_ok-put_site.ensures ∙ ap (λ (l : List ℕ). now ++ l) own in
    let size = sized_parts rules an move code ss c.requires.whole c.requires.ascend here (Piece (get_or ks i 0)) in
    record {
      whole = put_link lens bytes an.stub ks i next now new p here c.loop-link-test.true here_is refl size new_is ∙ c.loop-link.invariant.whole;
      room = omega (arith, ap (λ (l : List ℕ). length l) new_is, length-append now p, size, links_step lens ks i next c.loop-link-test.true, c.loop-link.invariant.room);
    }

pub put_join-requires : goal.put_join-requires
put_join-requires g c =
    let lens = code_lens (both c.args.hooks.now c.args.edges.now) c.args.sites.now in
    let next = c.args.chain.now.next in
    omega (arith, c.requires.room, c.loop-link.invariant.room, links_end lens c.links-link-items.result.now c.loop-link.link-index next c.loop-link-test.false, join_some lens next _ (sym c.in-Some.ensures), ap (λ (l : List ℕ). parts_len lens (link_parts l next)) c.links-link-items.ensures)

pub returns-in-Some : goal.returns-in-Some
returns-in-Some g c =
    let rules = (both c.args.hooks.now c.args.edges.now) in
    let ss = c.args.sites.now in
    let lens = code_lens rules ss in
    let ks = c.links-link-items.result.now in
    let i = c.loop-link.link-index in
    let next = c.args.chain.now.next in
    let move : ℕ → ℕ = moved c.args.table.now.pairs in
    let bytes = part_bytes c.args.anchors move (code_of c.args.runs.now) (counters rules c.args.anchors ss) ss in
    let old = c.args.code.now.items in
    let now = c.loop-link.code.items in
    let new = c.put_join.new.code.items in
    on_ok_weaker c.put_join.result
    (λ new_is. put_join lens bytes c.args.anchors.stub ks i next now new _ c.loop-link-test.false (sym c.in-Some.ensures) (jump_len (c.args.anchors.stub + length now) (move _)) new_is
    ∙ (c.loop-link.invariant.whole ∙ ap (λ (l : List ℕ). old ++ bytes_of bytes (placed lens (c.args.anchors.stub + length old) (link_parts l next))) c.links-link-items.ensures))
    c.put_join.ensures

pub returns-in-None : goal.returns-in-None
returns-in-None g c =
    let rules = (both c.args.hooks.now c.args.edges.now) in
    let ss = c.args.sites.now in
    let lens = code_lens rules ss in
    let ks = c.links-link-items.result.now in
    let next = c.args.chain.now.next in
    let move : ℕ → ℕ = moved c.args.table.now.pairs in
    let bytes = part_bytes c.args.anchors move (code_of c.args.runs.now) (counters rules c.args.anchors ss) ss in
    let old = c.args.code.now.items in
    put_nothing lens bytes c.args.anchors.stub ks c.loop-link.link-index next c.loop-link.code.items c.loop-link-test.false (sym c.in-None.ensures)
    ∙ (c.loop-link.invariant.whole ∙ ap (λ (l : List ℕ). old ++ bytes_of bytes (placed lens (c.args.anchors.stub + length old) (link_parts l next))) c.links-link-items.ensures)
