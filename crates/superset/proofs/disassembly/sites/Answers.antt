use Rattle.std.proofs.Common.{◌≡◌, ℕ, ◌≤◌, List, length, take, ◌∙◌, ap, sym, subst, arith}
use Rattle.std.specs.List.{flat_map}
use Rattle.std.proofs.lemmas.List.{take_all}
use Rattle.superset.proofs.RunSites.{run_sites, sites_split}
use Rattle.superset.specs.RunBytes.{apart_ends}
use Rattle.elf32_read.specs.declared.run.Run.{Run}
use Rattle.elf32_read.specs.Runs.{code_of, AreSpread}
use Rattle.superset.specs.declared.site.Site.{Site}
use Rattle.superset.specs.Sites.{sites_in, AreSites}
use Rattle.superset.proofs.AllSites.{are_sites}
use Rattle.superset.proofs.SiteBounds.{all_end_low, all_have_length}
use Rattle.superset.proofs.disassembly.sites.Goals as goal

pub add_sites-requires : goal.add_sites-requires
add_sites-requires c = apart_ends 0 c.args.runs.now c.requires c.loop-run.run-index c.run-item.result (omega arith) c.run-item.is

are : (runs : List Run) (k : ℕ) (found : List Site) → AreSpread 0 runs → length runs ≤ k → found ≡ flat_map run_sites (take k runs) → found ≡ sites_in (code_of runs) runs
are runs k found spread le e = e ∙ ap (flat_map run_sites) (take_all k runs le) ∙ sym (sites_split runs spread)

pub returns-clause-listed : goal.returns-clause-listed
returns-clause-listed c = are c.args.runs.now c.loop-run.run-index c.loop-run.found.items c.requires (omega arith) c.loop-run.invariant

all : (runs : List Run) (k : ℕ) (found : List Site) → AreSpread 0 runs → length runs ≤ k → found ≡ flat_map run_sites (take k runs) → AreSites (code_of runs) found
all runs k found spread le e = subst (AreSites (code_of runs)) (sym (are runs k found spread le e)) (are_sites runs spread)

pub returns-clause-exact : goal.returns-clause-exact
returns-clause-exact c = all c.args.runs.now c.loop-run.run-index c.loop-run.found.items c.requires (omega arith) c.loop-run.invariant

pub returns-clause-ends : goal.returns-clause-ends
returns-clause-ends c =
    let found = all c.args.runs.now c.loop-run.run-index c.loop-run.found.items c.requires (omega arith) c.loop-run.invariant in
    all_end_low c.args.runs.now c.requires c.loop-run.found.items found.only

pub returns-clause-lengths : goal.returns-clause-lengths
returns-clause-lengths c =
    let found = all c.args.runs.now c.loop-run.run-index c.loop-run.found.items c.requires (omega arith) c.loop-run.invariant in
    all_have_length c.args.runs.now c.requires c.loop-run.found.items found.only
