use Rattle.std.proofs.Common.{◌≡◌, ℕ, ◌∷◌, [], ◌++◌, List, length, sym, ap, ◌∙◌, arith}
use Rattle.std.specs.List.{filter_map, range_with_len}
use Rattle.elf32_read.specs.Runs.{code_of}
use Rattle.superset.specs.Sites.{site_at}
use Rattle.superset.specs.declared.site.Site.{Site}
use Rattle.superset.proofs.RunSites.{run_sites_are, site_more}
use Rattle.superset.proofs.disassembly.add_sites.Goals as goal

pub loop-offset-preserved : goal.loop-offset-preserved
loop-offset-preserved c =
    site_more (site_at (code_of (c.args.run.now ∷ []))) c.args.run.now.lo c.loop-offset.offset _ c.loop-offset.found.items c.args.found.now.items c.loop-offset.invariant c.in_ok-push_site.ensures

pub returns : goal.returns
returns c =
    let f = site_at (code_of (c.args.run.now ∷ [])) in
    let whole : c.loop-offset.offset ≡ length c.args.run.now.bytes = omega (arith, c.len-offset-end.ensures) in
    let tail : List Site → List Site = λ t. c.args.found.now.items ++ t in
    c.loop-offset.invariant ∙ ap (λ (n : ℕ). tail (filter_map f (range_with_len c.args.run.now.lo n))) whole ∙ ap tail (sym (run_sites_are c.args.run.now))
