use Rattle.std.proofs.Common.{rules, ◌≡◌, List, ℕ, length, Err, Some, refl, sym, ap, ◌∙◌, subst}
use Rattle.std.proofs.lemmas.List.{length-map}
use Rattle.std.specs.Option.{option_map}
use Rattle.std.specs.Prelude.{string_bytes}
use Rattle.multiverse_cli.specs.Answers.{IsDelivery}
use Rattle.multiverse_cli.specs.Commands.{Delivers}
use Rattle.multiverse_cli.specs.Outside.{stored}
use Rattle.multiverse_cli.specs.Steps.{WritesFile}
use Rattle.multiverse_cli.specs.Verdicts.{AllFit, file_of, delivery_of}
use Rattle.multiverse_cli.specs.Words.{asked, texts}
use Rattle.multiverse_cli.proofs.Inputs.{read-count, read-fit, read-whole}
use Rattle.multiverse_cli.proofs.Verdicts.{output-named}
use Rattle.multiverse_cli.proofs.Writing.{IsLastStep, fails-whole, passes-on}
use Rattle.multiverse_cli.proofs.carry.carry_out.Goals.{in-Some+in_ok-write_file, in_default}
use Rattle.multiverse_cli.proofs.carry.carry_out.Goals as goal

pub verdict-requires-clause-count : goal.verdict-requires-clause-count
verdict-requires-clause-count g c =
    let command = c.args.command.now in
    let s = stored g.S.Store c.args.store.now c.read_files.new.store in
    ap length c.as_slice.ensures.value
    ∙ (read-count s (texts command.reads.now) c.in_ok-files.files.items c.in_ok-files.ensures.reads
    ∙ (length-map command.reads.now string_bytes ∙ c.requires.inputs))

pub verdict-requires-clause-fit : goal.verdict-requires-clause-fit
verdict-requires-clause-fit g c =
    let s = stored g.S.Store c.args.store.now c.read_files.new.store in
    let P : List (List ℕ) → Type 0 = AllFit in
    subst P (sym c.as_slice.ensures.value)
    (read-fit s (texts c.args.command.now.reads.now) c.in_ok-files.files.items c.in_ok-files.ensures.reads)

pub returns-in_err-write_file-clause-carries : goal.returns-in_err-write_file-clause-carries
returns-in_err-write_file-clause-carries g c =
    let command = c.args.command.now in
    let a = asked command in
    let files = c.in_ok-files.files.items in
    let w = stored g.S.Store c.read_files.new.store c.write_file.new.store in
    let s = stored g.S.Store c.args.store.now c.write_file.new.store in
    let d = delivery_of c.in_ok-delivery.delivery in
    let f = file_of c.in-Some.file in
    let P : List (List ℕ) → Type 0 = λ fs. Delivers a.work fs d in
    let delivers = subst P c.as_slice.ensures.value c.in_ok-delivery.ensures in
    let last : IsLastStep w s = record {
      tells = c.in_ok-files.ensures.tells_same;
      before = c.in_ok-files.ensures.holds_same;
      after = refl;
      writes_before = c.in_ok-files.ensures.write_faults_same;
      writes_after = refl;
      failed = refl;
    } in
    let is : IsDelivery a s d = record {
      inputs = files;
      read = read-whole (stored g.S.Store c.args.store.now c.read_files.new.store) s a.reads files refl refl c.in_ok-files.ensures.reads;
      delivers = delivers;
    } in
    let file : d.file ≡ Some f = ap (option_map file_of) c.in-Some.is in
    let Q : List ℕ → Type 0 = λ bytes. WritesFile {A = Unit {0}} (Err c.in_err-write_file.field-0.0) f.name bytes w in
    passes-on _ c.in_err-write_file.field-0.0 a s c.from_residual-in_err-write_file.ensures.1
    (fails-whole c.in_err-write_file.field-0.0 a w s d f last is file (output-named a.work files d f delivers file)
    (subst Q c.as_slice-in-Some.ensures c.in_err-write_file.ensures.writes) c.in_err-write_file.ensures.others_same)

pub returns-clause-carries : goal.returns-clause-carries
returns-clause-carries g c =
    let command = c.args.command.now in
    let a = asked command in
    let files = c.in_ok-files.files.items in
    let s = stored g.S.Store c.args.store.now c.match-delivery.store in
    let d = delivery_of c.in_ok-delivery.delivery in
    let P : List (List ℕ) → Type 0 = λ fs. Delivers a.work fs d in
    record {
      delivery = d;
      is = record {
        inputs = files;
        read = read-whole (stored g.S.Store c.args.store.now c.read_files.new.store) s a.reads files refl refl c.in_ok-files.ensures.reads;
        delivers = subst P c.as_slice.ensures.value c.in_ok-delivery.ensures;
      };
      stored = elim c.match-delivery.branch [
        | in-Some+in_ok-write_file w ↦ search rules
        | in_default w ↦ search rules
      ];
      text_is = refl;
    }
