use Rattle.std.proofs.Common.{◌≡◌, ◌+◌, ◌++◌, List, ℕ, take, drop, sym, ap, ◌∙◌, subst}
use Rattle.std.proofs.lemmas.List.{take_all}
use Rattle.mv_base.specs.Printing.{Prints}
use Rattle.elf32_read.specs.Runs.{code_of}
use Rattle.multiverse_cli.specs.Listing.{site_lines}
use Rattle.multiverse_cli.proofs.Gathering.{IsGathered, with-line, put-part, put-more, put-full, put-last, put-failed, lines-split, lines-more}
use Rattle.multiverse_cli.proofs.report.put_lines.Goals as goal

pub returns-in_default-clause-prints : goal.returns-in_default-clause-prints
returns-in_default-clause-prints g c =
    let code = code_of c.args.runs.now in
    let ss = c.args.sites.now in
    let i = c.loop-site.site-index in
    λ t. put-part _ _ c.loop-site.piece.items (site_lines code (take i ss)) (c.loop-site.invariant.gathered t) (site_lines code ss)
    (site_lines code (drop i ss)) (lines-split code ss i)

pub returns-in_err-put_full-clause-prints : goal.returns-in_err-put_full-clause-prints
returns-in_err-put_full-clause-prints g c =
    let code = code_of c.args.runs.now in
    let ss = c.args.sites.now in
    let i = c.loop-site.site-index in
    let rest = site_lines code (drop (i + 1) ss) in
    let start = g.K.Sink.written c.args.out.now in
    let now = g.K.Sink.written c.loop-site.out in
    λ t.
    let h = with-line start now c.loop-site.piece.items (site_lines code (take i ss)) (c.loop-site.invariant.gathered t) _ c.put_site.new.to.items c.in-Ok.ensures in
    put-failed c.from_residual.result _ start _ _ c.from_residual.ensures.1
    (put-more start now c.put_site.new.to.items _ h _ (site_lines code ss) rest
    (lines-split code ss (i + 1) ∙ ap (λ front. front ++ rest) (lines-more code ss i _ c.loop-site-test.true))
    (c.in_err-put_full.ensures.puts (c.loop-site.invariant.tells ∙ t)))

pub loop-site-preserved : goal.loop-site-preserved
loop-site-preserved g c =
    let code = code_of c.args.runs.now in
    let ss = c.args.sites.now in
    let i = c.loop-site.site-index in
    let start = g.K.Sink.written c.args.out.now in
    let now = g.K.Sink.written c.loop-site.out in
    let Q : List ℕ → Type 0 = λ lines. IsGathered start (g.K.Sink.written c.put_full.new.out) c.put_full.new.piece.items lines in
    record {
      tells = c.in_ok-put_full.ensures.tells_same ∙ c.loop-site.invariant.tells;
      faults = c.in_ok-put_full.ensures.counts ∙ c.loop-site.invariant.faults;
      gathered = λ t.
          let h = with-line start now c.loop-site.piece.items (site_lines code (take i ss)) (c.loop-site.invariant.gathered t) _ c.put_site.new.to.items c.in-Ok.ensures in
          subst Q (sym (lines-more code ss i _ c.loop-site-test.true))
          (put-full start now c.put_site.new.to.items _ h c.in_ok-put_full.field-0 _ _ (c.in_ok-put_full.ensures.puts (c.loop-site.invariant.tells ∙ t)));
    }

pub returns-clause-prints : goal.returns-clause-prints
returns-clause-prints g c =
    let code = code_of c.args.runs.now in
    let ss = c.args.sites.now in
    let i = c.loop-site.site-index in
    let start = g.K.Sink.written c.args.out.now in
    let now = g.K.Sink.written c.loop-site.out in
    let then = g.K.Sink.written c.put.new.self in
    let all : site_lines code (take i ss) ≡ site_lines code ss = ap (site_lines code) (take_all i ss c.loop-site-test.false) in
    let P : List ℕ → Type 0 = λ piece. Prints c.put.result piece now then in
    let Q : List ℕ → Type 0 = λ lines. Prints c.put.result lines start then in
    λ t. subst Q all (put-last start now c.loop-site.piece.items (site_lines code (take i ss)) (c.loop-site.invariant.gathered t) c.put.result then
    (subst P c.as_slice.ensures.value (c.put.ensures.prints (c.loop-site.invariant.tells ∙ t))))
