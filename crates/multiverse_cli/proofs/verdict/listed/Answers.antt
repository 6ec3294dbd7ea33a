use Rattle.std.proofs.Common.{List, refl, sym, ap, ◌∙◌, subst}
use Rattle.elf32_read.specs.declared.run.Run.{Run}
use Rattle.elf32_read.specs.Runs.{AreApart, code_of}
use Rattle.elf32_read.specs.Segments.{AreSpread-apart}
use Rattle.superset.specs.Sites.{sites_in}
use Rattle.multiverse_cli.proofs.Found.{admitted, no-refusal, not-read, not-within, found-listing}
use Rattle.multiverse_cli.proofs.verdict.listed.Goals as goal

pub returns-in_err-loaded : goal.returns-in_err-loaded
returns-in_err-loaded c =
    not-read c.args.image.now c.in_err-loaded.field-0.0 _ c.in_err-loaded.ensures c.from_residual.ensures.1

pub returns-in_err-admit : goal.returns-in_err-admit
returns-in_err-admit c =
    not-within c.args.image.now c.in_ok-loaded.loaded c.in_err-admit.field-0.0 _ c.in_ok-loaded.ensures c.in_err-admit.ensures
    c.from_residual-in_err-admit.ensures.1

pub runs-requires-clause-admitted : goal.runs-requires-clause-admitted
runs-requires-clause-admitted c = admitted c.args.image.now c.in_ok-loaded.loaded c.in_ok-loaded.ensures c.in_ok-admit.ensures

pub sites-requires : goal.sites-requires
sites-requires c =
    AreSpread-apart 0 c.as_slice.result.now
    (subst (AreApart 0) (sym (c.as_slice.ensures.value ∙ c.in_ok-runs.ensures.list)) c.in_ok-runs.ensures.apart)

pub returns : goal.returns
returns c =
    let b = c.args.image.now in
    let whole = c.in_ok-loaded.ensures.whole in
    let found = c.in_ok-sites.ensures.listed ∙ ap (λ (rs : List Run). sites_in (code_of rs) rs) c.as_slice.ensures.value in
    record {
      sound = no-refusal b whole (admitted b c.in_ok-loaded.loaded c.in_ok-loaded.ensures c.in_ok-admit.ensures);
      text_is = found-listing b (record { runs = c.in_ok-runs.runs; sites = c.in_ok-sites.sites }) whole c.in_ok-runs.ensures.list found;
      file_is = refl;
    }
