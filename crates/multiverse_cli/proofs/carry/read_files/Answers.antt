use Rattle.std.proofs.Common.{◌++◌, ◌∷◌, [], List, ℕ, Option, Ok, refl, sym, ap, ◌∙◌, subst, arith, take, take_all}
use Rattle.multiverse_cli.specs.Outside.{stored}
use Rattle.multiverse_cli.specs.Steps.{ReadsFile}
use Rattle.multiverse_cli.specs.Words.{texts}
use Rattle.multiverse_cli.proofs.Files.{one-more, next-name, so-far-held, IsLaterRead, read-also, large-also, so-far-same, unread, passes-read, first-large}
use Rattle.multiverse_cli.proofs.carry.read_files.Goals.{in-Some+in_ok-push-in-Some, in-None}
use Rattle.multiverse_cli.proofs.carry.read_files.Goals as goal

pub returns-in_err-bytes-clause-reads : goal.returns-in_err-bytes-clause-reads
returns-in_err-bytes-clause-reads g c =
    let w = stored g.S.Store c.loop-name.store c.read_file.new.store in
    let s = stored g.S.Store c.args.store.now c.read_file.new.store in
    let later : IsLaterRead w s = record {
      tells = c.loop-name.invariant.tells;
      before = c.loop-name.invariant.holds;
      reads_before = c.loop-name.invariant.reads;
    } in
    let start = stored g.S.Store c.args.store.now c.args.store.now in
    let whole : IsLaterRead start s = record { tells = refl; before = refl; reads_before = omega arith } in
    let held = so-far-held c.loop-name.oversized start s _ c.loop-name.files.items whole c.loop-name.invariant.so_far in
    passes-read _ c.in_err-bytes.field-0.0 _ s c.from_residual.ensures.1
    (unread c.in_err-bytes.field-0.0 w s _ c.as_str.result.now later refl refl
    (next-name c.args.names.now c.loop-name.name-index c.name-item.result c.as_str.result.now c.loop-name-test.true c.name-item.is c.as_str.ensures.value s held)
    c.in_err-bytes.ensures.reads)

pub loop-name-preserved : goal.loop-name-preserved
loop-name-preserved g c =
    let w = stored g.S.Store c.loop-name.store c.read_file.new.store in
    let s = stored g.S.Store c.args.store.now c.args.store.now in
    let first = c.loop-name.invariant.reads in
    let falls = c.in_ok-bytes.ensures.never_falls in
    let later : IsLaterRead w s = record {
      tells = c.loop-name.invariant.tells;
      before = c.loop-name.invariant.holds;
      reads_before = first;
    } in
    let more = one-more c.args.names.now c.loop-name.name-index c.name-item.result c.as_str.result.now c.loop-name-test.true c.name-item.is c.as_str.ensures.value in
    let n = c.as_str.result.now in
    let P : Option (List ℕ) → Type 0 = λ got. ReadsFile (Ok got) n w in
    record {
      tells = c.in_ok-bytes.ensures.tells_same ∙ c.loop-name.invariant.tells;
      holds = c.in_ok-bytes.ensures.holds_same ∙ c.loop-name.invariant.holds;
      reads = omega arith;
      reads_same = c.in_ok-bytes.ensures.counts.0 ∙ c.loop-name.invariant.reads_same;
      writes = c.in_ok-bytes.ensures.write_faults_same ∙ c.loop-name.invariant.writes;
      so_far = elim c.match-branch-2.branch [
        | in-Some+in_ok-push-in-Some x ↦ so-far-same c.loop-name.oversized _ s (texts (take c.loop-name.name-index c.args.names.now) ++ n ∷ []) _ (c.loop-name.files.items ++ x.in-Some.bytes ∷ []) _ x.oversized-is more
            (ap (λ v. v.items) x.files-is ∙ x.in_ok-push-in-Some.ensures.items)
            (read-also c.loop-name.oversized w s _ c.loop-name.files.items n x.in-Some.bytes later c.loop-name.invariant.so_far (subst P x.in-Some.is c.in_ok-bytes.ensures.reads))
        | in-None x ↦ so-far-same _ _ s (texts (take c.loop-name.name-index c.args.names.now) ++ n ∷ []) _ c.loop-name.files.items _ (x.oversized-is ∙ x.or-oversized.ensures) more (ap (λ v. v.items) x.files-is)
            (large-also c.loop-name.oversized w s _ c.loop-name.files.items n x.as_str-in-None.result later c.loop-name.invariant.so_far (subst P x.in-None.is c.in_ok-bytes.ensures.reads)
            (x.as_str-in-None.ensures.value ∙ sym c.as_str.ensures.value))
      ];
    }

pub returns-clause-reads : goal.returns-clause-reads
returns-clause-reads g c =
    let w = stored g.S.Store c.args.store.now c.args.store.now in
    let s = stored g.S.Store c.args.store.now c.loop-name.store in
    let over = c.loop-name-test.false in
    let later : IsLaterRead w s = record { tells = refl; before = refl; reads_before = omega arith } in
    first-large c.loop-name.oversized c.in-Some-oversized.name w s (texts (take c.loop-name.name-index c.args.names.now))
    (texts c.args.names.now) c.loop-name.files.items later c.in-Some-oversized.is
    (ap texts (take_all c.loop-name.name-index c.args.names.now over)) c.loop-name.invariant.so_far
