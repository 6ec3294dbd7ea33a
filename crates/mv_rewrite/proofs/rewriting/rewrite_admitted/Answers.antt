use Rattle.std.proofs.Common.{◌≡◌, ℕ, List, length, Some, arith, sym, ap, ◌∙◌, subst}
use Rattle.std.proofs.lemmas.Result.{err_from_is_err_and}
use Rattle.mv_base.specs.Span.{Span}
use Rattle.mv_base.specs.Bytes.{AreBytes}
use Rattle.elf32_read.specs.Runs.{AreApart, runs_of}
use Rattle.elf32_read.specs.Segments.{AreSpread-apart}
use Rattle.map_table.specs.Paged.{AreRuns}
use Rattle.superset.specs.declared.site.Site.{Site}
use Rattle.sequence_join.specs.Chains.{chains_of}
use Rattle.image_layout.specs.laws.LayFacts.{count, listed_few}
use Rattle.image_layout.specs.Rules.{both}
use Rattle.mv_rewrite.specs.Sites.{sites}
use Rattle.mv_rewrite.specs.Layout.{chains}
use Rattle.mv_rewrite.proofs.Assembled.{AreOf, counted_are, ends_low, few_runs, planned, laid_passes, no_refusal, few_headers, output_is, sites_are}
use Rattle.mv_rewrite.proofs.LayoutFacts.{are_laid, are_runs, segments_apart}
use Rattle.mv_rewrite.proofs.rewriting.rewrite_admitted.Goals as goal

pub sites-requires : goal.sites-requires
sites-requires g c =
    AreSpread-apart 0 c.deref.result.now (subst (AreApart 0) (sym (c.deref.ensures.value ∙ c.in_ok-runs.ensures.list)) c.in_ok-runs.ensures.apart)

pub lay_edges-requires-clause-apart : goal.lay_edges-requires-clause-apart
lay_edges-requires-clause-apart g c = segments_apart c.args.bytes.now c.args.image.now.segments c.requires.image.whole c.requires.image.segments_are

pub lay_edges-requires-clause-runs : goal.lay_edges-requires-clause-runs
lay_edges-requires-clause-runs g c = subst AreRuns (sym (c.deref-3.ensures.value ∙ c.in_ok-runs.ensures.list)) (are_runs c.args.bytes.now c.requires.image.whole c.requires.admitted)

pub returns-in_err-plan-clause-rewritten : goal.returns-in_err-plan-clause-rewritten
returns-in_err-plan-clause-rewritten g c =
    let found : c.in_ok-sites.sites.items ≡ sites c.args.bytes.now = sites_are c.args.bytes.now c.deref.result.now c.in_ok-sites.sites.items c.requires.image.whole (c.deref.ensures.value ∙ c.in_ok-runs.ensures.list) c.in_ok-sites.ensures.listed in
    let of : AreOf c.args.bytes.now c.args.image.now c.deref-3.result.now c.deref-4.result.now c.in_ok-chains.chains =
    record {
      image_is = c.requires.image;
      runs_are = c.deref-3.ensures.value ∙ c.in_ok-runs.ensures.list;
      sites_are = c.deref-4.ensures.value ∙ found;
      chains_are = c.in_ok-chains.ensures.exact ∙ ap chains_of (c.deref-2.ensures.value ∙ found);
    } in
    let p = err_from_is_err_and c.from_residual-in_err-plan.result c.from_residual-in_err-plan.ensures.1 in
    rw p.1 (laid_passes c.args.bytes.now (both c.args.hooks.now c.args.edges.now) c.args.image.now c.deref-3.result.now c.deref-4.result.now c.in_ok-chains.chains _ p.0 of (no_refusal c.args.bytes.now c.requires.image.whole c.requires.admitted) c.in_err-plan.ensures.laid p.2)

pub write_image-requires-clause-headers : goal.write_image-requires-clause-headers
write_image-requires-clause-headers g c = few_headers c.args.bytes.now c.args.image.now.headers c.requires.admitted c.requires.image.headers_are

pub write_image-requires-clause-runs : goal.write_image-requires-clause-runs
write_image-requires-clause-runs g c =
    let found : c.in_ok-sites.sites.items ≡ sites c.args.bytes.now = sites_are c.args.bytes.now c.deref.result.now c.in_ok-sites.sites.items c.requires.image.whole (c.deref.ensures.value ∙ c.in_ok-runs.ensures.list) c.in_ok-sites.ensures.listed in
    let of : AreOf c.args.bytes.now c.args.image.now c.deref-3.result.now c.deref-4.result.now c.in_ok-chains.chains =
    record {
      image_is = c.requires.image;
      runs_are = c.deref-3.ensures.value ∙ c.in_ok-runs.ensures.list;
      sites_are = c.deref-4.ensures.value ∙ found;
      chains_are = c.in_ok-chains.ensures.exact ∙ ap chains_of (c.deref-2.ensures.value ∙ found);
    } in
    few_runs c.args.bytes.now (both c.args.hooks.now c.args.edges.now) c.in_ok-plan.plan c.requires.admitted (planned c.args.bytes.now (both c.args.hooks.now c.args.edges.now) c.args.image.now c.deref-3.result.now c.deref-4.result.now c.in_ok-chains.chains c.in_ok-plan.plan of c.in_ok-plan.ensures.laid)

pub write_image-requires-clause-block : goal.write_image-requires-clause-block
write_image-requires-clause-block g c =
    let found : c.in_ok-sites.sites.items ≡ sites c.args.bytes.now = sites_are c.args.bytes.now c.deref.result.now c.in_ok-sites.sites.items c.requires.image.whole (c.deref.ensures.value ∙ c.in_ok-runs.ensures.list) c.in_ok-sites.ensures.listed in
    let of : AreOf c.args.bytes.now c.args.image.now c.deref-3.result.now c.deref-4.result.now c.in_ok-chains.chains =
    record {
      image_is = c.requires.image;
      runs_are = c.deref-3.ensures.value ∙ c.in_ok-runs.ensures.list;
      sites_are = c.deref-4.ensures.value ∙ found;
      chains_are = c.in_ok-chains.ensures.exact ∙ ap chains_of (c.deref-2.ensures.value ∙ found);
    } in
    ends_low c.args.bytes.now (both c.args.hooks.now c.args.edges.now) c.in_ok-plan.plan (are_laid c.args.bytes.now c.requires.image.whole c.requires.admitted)
    (planned c.args.bytes.now (both c.args.hooks.now c.args.edges.now) c.args.image.now c.deref-3.result.now c.deref-4.result.now c.in_ok-chains.chains c.in_ok-plan.plan of c.in_ok-plan.ensures.laid)

pub overflow_cast-count : goal.overflow_cast-count
overflow_cast-count g c =
    let found : c.in_ok-sites.sites.items ≡ sites c.args.bytes.now = sites_are c.args.bytes.now c.deref.result.now c.in_ok-sites.sites.items c.requires.image.whole (c.deref.ensures.value ∙ c.in_ok-runs.ensures.list) c.in_ok-sites.ensures.listed in
    let most = count (runs_of c.args.bytes.now) (sites c.args.bytes.now) (chains c.args.bytes.now) (are_laid c.args.bytes.now c.requires.image.whole c.requires.admitted) in
    omega (arith, most, c.len-count.ensures, c.deref-4.ensures.len, ap (λ (l : List Site). length l) (c.deref-4.ensures.value ∙ found))

pub overflow_cast-result : goal.overflow_cast-result
overflow_cast-result g c =
    let found : c.in_ok-sites.sites.items ≡ sites c.args.bytes.now = sites_are c.args.bytes.now c.deref.result.now c.in_ok-sites.sites.items c.requires.image.whole (c.deref.ensures.value ∙ c.in_ok-runs.ensures.list) c.in_ok-sites.ensures.listed in
    let of : AreOf c.args.bytes.now c.args.image.now c.deref-3.result.now c.deref-4.result.now c.in_ok-chains.chains =
    record {
      image_is = c.requires.image;
      runs_are = c.deref-3.ensures.value ∙ c.in_ok-runs.ensures.list;
      sites_are = c.deref-4.ensures.value ∙ found;
      chains_are = c.in_ok-chains.ensures.exact ∙ ap chains_of (c.deref-2.ensures.value ∙ found);
    } in
    let is = planned c.args.bytes.now (both c.args.hooks.now c.args.edges.now) c.args.image.now c.deref-3.result.now c.deref-4.result.now c.in_ok-chains.chains c.in_ok-plan.plan of c.in_ok-plan.ensures.laid in
    let few = listed_few (both c.args.hooks.now c.args.edges.now) (runs_of c.args.bytes.now) (sites c.args.bytes.now) (chains c.args.bytes.now) (are_laid c.args.bytes.now c.requires.image.whole c.requires.admitted) in
    omega (arith, few, c.len.ensures, counted_are c.args.bytes.now (both c.args.hooks.now c.args.edges.now) c.in_ok-plan.plan is)

pub added-requires-clause-planned : goal.added-requires-clause-planned
added-requires-clause-planned g c =
    let found : c.in_ok-sites.sites.items ≡ sites c.args.bytes.now = sites_are c.args.bytes.now c.deref.result.now c.in_ok-sites.sites.items c.requires.image.whole (c.deref.ensures.value ∙ c.in_ok-runs.ensures.list) c.in_ok-sites.ensures.listed in
    let of : AreOf c.args.bytes.now c.args.image.now c.deref-3.result.now c.deref-4.result.now c.in_ok-chains.chains =
    record {
      image_is = c.requires.image;
      runs_are = c.deref-3.ensures.value ∙ c.in_ok-runs.ensures.list;
      sites_are = c.deref-4.ensures.value ∙ found;
      chains_are = c.in_ok-chains.ensures.exact ∙ ap chains_of (c.deref-2.ensures.value ∙ found);
    } in
    planned c.args.bytes.now (both c.args.hooks.now c.args.edges.now) c.args.image.now c.deref-3.result.now c.deref-4.result.now c.in_ok-chains.chains c.in_ok-plan.plan of c.in_ok-plan.ensures.laid

pub returns-clause-rewritten : goal.returns-clause-rewritten
returns-clause-rewritten g c =
    let found : c.in_ok-sites.sites.items ≡ sites c.args.bytes.now = sites_are c.args.bytes.now c.deref.result.now c.in_ok-sites.sites.items c.requires.image.whole (c.deref.ensures.value ∙ c.in_ok-runs.ensures.list) c.in_ok-sites.ensures.listed in
    let of : AreOf c.args.bytes.now c.args.image.now c.deref-3.result.now c.deref-4.result.now c.in_ok-chains.chains =
    record {
      image_is = c.requires.image;
      runs_are = c.deref-3.ensures.value ∙ c.in_ok-runs.ensures.list;
      sites_are = c.deref-4.ensures.value ∙ found;
      chains_are = c.in_ok-chains.ensures.exact ∙ ap chains_of (c.deref-2.ensures.value ∙ found);
    } in
    let is = planned c.args.bytes.now (both c.args.hooks.now c.args.edges.now) c.args.image.now c.deref-3.result.now c.deref-4.result.now c.in_ok-chains.chains c.in_ok-plan.plan of c.in_ok-plan.ensures.laid in
    record {
      whole = no_refusal c.args.bytes.now c.requires.image.whole c.requires.admitted;
      bytes = output_is c.args.bytes.now (both c.args.hooks.now c.args.edges.now) c.in_ok-plan.plan is ∙ ap (λ (x : List ℕ). Some x) (sym (c.new.ensures ∙ c.in_ok-file.ensures.file));
      site_count = omega (arith, c.len-count.ensures, c.deref-4.ensures.len, ap (λ (l : List Site). length l) (c.deref-4.ensures.value ∙ found));
      added_lo = is.base_is ∙ ap (λ (s : Span). Some s.lo) (sym c.added.ensures);
      added_len = ap (λ (s : Span). s.len) c.added.ensures;
      counter_count = c.len.ensures ∙ counted_are c.args.bytes.now (both c.args.hooks.now c.args.edges.now) c.in_ok-plan.plan is;
    }

pub returns-clause-bytes : goal.returns-clause-bytes
returns-clause-bytes g c = subst (λ (l : List ℕ). AreBytes l) (c.deref-5.ensures.value ∙ sym c.new.ensures) c.are_bytes.ensures
