use Rattle.std.proofs.Common.{◌∙◌, None, Some, length, sym, ap, subst, arith}
use Rattle.std.specs.Prelude.{Ok, Err}
use Rattle.elf32_read.specs.Runs.{AreSpread}
use Rattle.elf32_write.specs.Frame.{counted}
use Rattle.superset.specs.Sites.{addresses}
use Rattle.simulation_laws.specs.Code.{code_in}
use Rattle.pair_check.proofs.NoDifference.{rises_ascend, rises_fit}
use Rattle.pair_check.proofs.Sound.{parts_none}
use Rattle.pair_check.proofs.Answering.{spread, few_addresses, fits_there, seen_there, compares, parts_first, sites_then, all_sites}
use Rattle.pair_check.proofs.checking.check_framed.Goals as goal

pub returns-in-Some : goal.returns-in-Some
returns-in-Some c =
    let b = c.args.original.now in
    let x = c.args.output.now in
    let f = c.args.frame.now in
    compares b x f (Some c.in-Some.found) c.requires.image.whole c.requires.admitted c.requires.framed (parts_first b x f c.in-Some.found (sym c.in_ok-found.ensures ∙ c.in-Some.is))

pub sites_difference-requires-clause-spread : goal.sites_difference-requires-clause-spread
sites_difference-requires-clause-spread c = subst (AreSpread 0) (sym (c.deref-in-None.ensures.value ∙ c.in_ok-runs.ensures.list)) (spread c.args.original.now c.requires.image.whole)

pub sites_difference-requires-clause-few : goal.sites_difference-requires-clause-few
sites_difference-requires-clause-few c = omega (arith, ap (λ rs. length (addresses rs)) (c.deref-in-None.ensures.value ∙ c.in_ok-runs.ensures.list), few_addresses c.args.original.now c.requires.image.whole c.requires.admitted)

pub sites_difference-requires-clause-ascends : goal.sites_difference-requires-clause-ascends
sites_difference-requires-clause-ascends c =
    let alike = parts_none c.args.original.now c.args.output.now c.args.frame.now (λ i. omega (arith, c.type_inv.original i)) (λ i. omega (arith, c.type_inv.output i)) c.requires.limit c.requires.image.whole c.requires.admitted c.requires.framed (sym c.in_ok-found.ensures ∙ c.in-None.is) in
    rises_ascend c.args.frame.now (code_in c.args.original.now) None (counted c.args.frame.now) alike.rises

pub sites_difference-requires-clause-fits : goal.sites_difference-requires-clause-fits
sites_difference-requires-clause-fits c =
    let alike = parts_none c.args.original.now c.args.output.now c.args.frame.now (λ i. omega (arith, c.type_inv.original i)) (λ i. omega (arith, c.type_inv.output i)) c.requires.limit c.requires.image.whole c.requires.admitted c.requires.framed (sym c.in_ok-found.ensures ∙ c.in-None.is) in
    fits_there c.args.original.now c.args.frame.now c.deref-in-None.result.now c.requires.image.whole (c.deref-in-None.ensures.value ∙ c.in_ok-runs.ensures.list) (rises_fit c.args.frame.now (code_in c.args.original.now) alike.rises)

pub returns-in-Ok : goal.returns-in-Ok
returns-in-Ok c =
    let b = c.args.original.now in
    let x = c.args.output.now in
    let f = c.args.frame.now in
    let seen = seen_there b f c.deref-in-None.result.now (Ok c.in-Ok.count) c.requires.image.whole (c.deref-in-None.ensures.value ∙ c.in_ok-runs.ensures.list) c.in-Ok.ensures in
    record {
      compares = compares b x f None c.requires.image.whole c.requires.admitted c.requires.framed (sites_then b x f None (sym c.in_ok-found.ensures ∙ c.in-None.is) seen.0);
      site_count = seen.1 ∙ all_sites b;
    }

pub returns : goal.returns
returns c =
    let b = c.args.original.now in
    let x = c.args.output.now in
    let f = c.args.frame.now in
    let seen = seen_there b f c.deref-in-None.result.now (Err c.in-Err.found) c.requires.image.whole (c.deref-in-None.ensures.value ∙ c.in_ok-runs.ensures.list) c.in-Err.ensures in
    compares b x f (Some c.in-Err.found) c.requires.image.whole c.requires.admitted c.requires.framed (sites_then b x f (Some c.in-Err.found) (sym c.in_ok-found.ensures ∙ c.in-None.is) seen)
