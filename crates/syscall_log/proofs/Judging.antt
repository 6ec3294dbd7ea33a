-- The state of a reading, and what it says of the text: that it is a log's, or which line is bad.
use Rattle.std.proofs.Common.{◌≡◌, ◌≢◌, ℕ, ◌+◌, ◌-◌, ◌<◌, ◌≤◌, ◌⊎◌, inl, inr, List, [], ◌∷◌, ◌++◌, length, refl, sym, ap, ◌∙◌, subst, append_assoc, append-nil, length-append, arith}
use Rattle.std.proofs.lemmas.Bool.{cases_lt}
use Rattle.std.proofs.lemmas.List.{nil_from_length}
use Rattle.std.proofs.lemmas.List.Concat.{flat_map-append}
use Rattle.syscall_log.specs.declared.answer.Answer.{Answer}
use Rattle.syscall_log.specs.declared.item.Item.{Item}
use Rattle.syscall_log.specs.declared.phase.Phase.{Phase}
use Rattle.syscall_log.specs.declared.phase.Phase.TheVariants as phase
use Rattle.syscall_log.specs.Rules.{IsLog}
use Rattle.syscall_log.specs.Grammar.{line_of, lines, items_of, text_of}
use Rattle.syscall_log.specs.Faults.{IsLogText, BeginsLog, IsBadLine, IsFault}
use Rattle.syscall_log.specs.Reads.{fault_at}
use Rattle.syscall_log.specs.declared.fault.LineFault.{LineFault}
use Rattle.syscall_log.specs.declared.fault.LineFault.TheVariants as fault
use Rattle.syscall_log.specs.Following.{Continues, IsStuck}
use Rattle.syscall_log.specs.Phases.{Fits, phase_after}
use Rattle.syscall_log.specs.Drafts.{args_with, answers_with}
use Rattle.syscall_log.proofs.Splitting.{split, lines-cons}
use Rattle.syscall_log.proofs.Runs.{MayRun, MayRun-behind, MayRun-front, AreItems-run, phase_behind, phase_behind-append, log_runs}
use Rattle.syscall_log.proofs.Drafting.{Tied, items_so_far, adds, log-so-far}

-- so many lines of the text were read, as these arguments and answers, and this is the rest of it
pub record HasRead (text : List ℕ) (p : Phase) (args : List (List ℕ)) (answers : List Answer) (count : ℕ) (rest : List ℕ) : Type 0 where
  pub whole : text ≡ lines (items_so_far p args answers) ++ rest
  pub tied : Tied p args answers
  pub here : phase_behind phase.Start (items_so_far p args answers) ≡ p
  pub counted : length (items_so_far p args answers) ≡ count
  pub room : count + length rest ≤ length text

-- ---- what was read, at first and with an item more

pub HasRead-nothing : (text : List ℕ) → HasRead text phase.Start [] [] 0 text
HasRead-nothing text = record { whole = refl; tied = (refl, refl); here = refl; counted = refl; room = omega arith }

lines-more : (items : List Item) (i : Item) (rest : List ℕ) → lines items ++ (line_of i ++ 10 ∷ rest) ≡ lines (items ++ i ∷ []) ++ rest
lines-more items i rest =
    sym (ap (λ t. t ++ rest) (flat_map-append (λ i. line_of i ++ 10 ∷ []) items (i ∷ []))
    ∙ append_assoc (lines items) (lines (i ∷ [])) rest
    ∙ ap (λ t. lines items ++ t) (lines-cons i [] rest))

pub HasRead-more : (text : List ℕ) (p after : Phase) (args : List (List ℕ)) (answers : List Answer) (count : ℕ) (rest more : List ℕ) (i : Item) → HasRead text p args answers count rest → Continues p rest i after more → HasRead text after (args_with args i) (answers_with answers i) (count + 1) more
HasRead-more text p after args answers count rest more i was next =
    let done = items_so_far p args answers in
    let added = adds p args answers i was.tied next.may_come.0 next.may_come.1 in
    let less = length-append (line_of i) (10 ∷ more) in
    subst (λ q. HasRead text q (args_with args i) (answers_with answers i) (count + 1) more) (sym next.goes_on) record {
      whole = was.whole ∙ ap (λ t. lines done ++ t) next.begins ∙ lines-more done i more ∙ ap (λ t. lines t ++ more) (sym added.items);
      tied = added.tied;
      here = ap (phase_behind phase.Start) added.items ∙ phase_behind-append phase.Start done (i ∷ []) ∙ ap (λ q. phase_after q i) was.here;
      counted = omega (arith, ap length added.items, length-append done (i ∷ []), was.counted);
      room = omega (arith, was.room, ap length next.begins, less);
    }

-- ---- where nothing is left, the text is a log's

pub is-log : (text : List ℕ) (p : Phase) (args : List (List ℕ)) (answers : List Answer) (count : ℕ) (rest : List ℕ) → HasRead text p args answers count rest → p ≢ phase.Start → IsLog args answers
is-log text p args answers count rest was begun = (log-so-far p args answers was.tied begun).0

pub is-text : (text : List ℕ) (p : Phase) (args : List (List ℕ)) (answers : List Answer) (count : ℕ) (rest : List ℕ) → HasRead text p args answers count rest → p ≢ phase.Start → length rest ≡ 0 → text ≡ text_of args answers
unfolding text_of
is-text text p args answers count rest was begun done =
    was.whole
    ∙ ap (λ t. lines t ++ rest) (log-so-far p args answers was.tied begun).1
    ∙ ap (λ t. lines (items_of args answers) ++ t) (nil_from_length rest done)
    ∙ append-nil (lines (items_of args answers))

-- ---- where no item may come, the next line is bad

runs-so-far : (p : Phase) (args : List (List ℕ)) (answers : List Answer) → Tied p args answers → MayRun phase.Start (items_so_far p args answers)
runs-so-far phase.Start args answers tied = tt
runs-so-far (phase.Arguments places room) args answers tied =
    log_runs args answers (log-so-far (phase.Arguments places room) args answers tied (λ e. cc)).0
runs-so-far phase.Answers args answers tied = log_runs args answers (log-so-far phase.Answers args answers tied (λ e. cc)).0
runs-so-far phase.Settled args answers tied = log_runs args answers (log-so-far phase.Settled args answers tied (λ e. cc)).0
runs-so-far phase.Over args answers tied = log_runs args answers tied

-- where no item may come, none does
none-comes : (p : Phase) (done front zs : List Item) (rest r : List ℕ) → phase_behind phase.Start done ≡ p → IsStuck p rest → front ≡ done ++ zs → rest ≡ lines zs ++ r → length done < length front → MayRun phase.Start front → ⊥
none-comes p done front [] rest r here stuck is more longer run = omega (arith, ap length is, length-append done [])
none-comes p done front (z ∷ zs) rest r here stuck is more longer run =
    let m = MayRun-behind phase.Start done (z ∷ zs) (subst (MayRun phase.Start) is run) in
    stuck z (lines zs ++ r) (m.0, subst (λ q. Fits q z) here m.1) (more ∙ lines-cons z zs r)

-- no log's text has a line more in common with the text
no-further : (text : List ℕ) (p : Phase) (args : List (List ℕ)) (answers : List Answer) (count : ℕ) (rest : List ℕ) → HasRead text p args answers count rest → IsStuck p rest → (args' : List (List ℕ)) (answers' : List Answer) (front back : List Item) (r : List ℕ) → IsLog args' answers' → items_of args' answers' ≡ front ++ back → text ≡ lines front ++ r → count < length front → ⊥
no-further text p args answers count rest was stuck args' answers' front back r is items begins longer =
    let done = items_so_far p args answers in
    let run = subst (MayRun phase.Start) items (log_runs args' answers' is) in
    let run_front = MayRun-front phase.Start front back run in
    let s = split done front rest r (AreItems-run phase.Start done (runs-so-far p args answers was.tied)) (AreItems-run phase.Start front run_front) (omega (arith, was.counted)) (sym was.whole ∙ begins) in
    none-comes p done front s.0 rest r was.here stuck s.1 s.2 (omega (arith, was.counted)) run_front

not-log : (text : List ℕ) (p : Phase) (args : List (List ℕ)) (answers : List Answer) (count : ℕ) (rest : List ℕ) → HasRead text p args answers count rest → IsStuck p rest → (p ≡ phase.Start) ⊎ (0 < length rest) → IsLogText text → ⊥
unfolding text_of
not-log text p args answers count rest was stuck left is =
    let all = items_of is.args is.answers in
    let done = items_so_far p args answers in
    let whole : text ≡ lines all ++ [] = is.is_text ∙ sym (append-nil (lines all)) in
    elim (cases_lt count (length all)) [
      | inl more ↦ no-further text p args answers count rest was stuck is.args is.answers all [] [] is.is_log (sym (append-nil all)) whole more
      | inr less ↦
          let s = split all done [] rest (AreItems-run phase.Start all (log_runs is.args is.answers is.is_log)) (AreItems-run phase.Start done (runs-so-far p args answers was.tied)) (omega (arith, was.counted)) (sym whole ∙ was.whole) in
          elim left [
            | inl start ↦ omega (arith, was.counted, ap (λ q. length (items_so_far q args answers)) start)
            | inr some ↦ omega (arith, ap length s.2, length-append (lines s.0) rest)
          ]
    ]

begins-so-far : (text : List ℕ) (p : Phase) (args : List (List ℕ)) (answers : List Answer) (count : ℕ) (rest : List ℕ) → HasRead text p args answers count rest → p ≢ phase.Start → BeginsLog text count
begins-so-far text p args answers count rest was begun =
    let log = log-so-far p args answers was.tied begun in
    record {
      args = args;
      answers = answers;
      is_log = log.0;
      front = items_so_far p args answers;
      back = [];
      items = sym log.1 ∙ sym (append-nil (items_so_far p args answers));
      count = was.counted;
      rest = rest;
      begins = was.whole;
    }

-- the lines before are some log's
begins-log : (text : List ℕ) (p : Phase) (args : List (List ℕ)) (answers : List Answer) (count : ℕ) (rest : List ℕ) → HasRead text p args answers count rest → BeginsLog text count
begins-log text phase.Start args answers count rest was =
    record {
      args = [];
      answers = [];
      is_log = record {
        arguments = record { few = omega arith; short = omega arith; each = λ k d below. absurd (omega arith) };
        answers_keep = tt;
      };
      front = [];
      back = items_of [] [];
      items = refl;
      count = was.counted;
      rest = rest;
      begins = was.whole;
    }
begins-log text (phase.Arguments places room) args answers count rest was =
    begins-so-far text (phase.Arguments places room) args answers count rest was (λ e. cc)
begins-log text phase.Answers args answers count rest was =
    begins-so-far text phase.Answers args answers count rest was (λ e. cc)
begins-log text phase.Settled args answers count rest was =
    begins-so-far text phase.Settled args answers count rest was (λ e. cc)
begins-log text phase.Over args answers count rest was = begins-so-far text phase.Over args answers count rest was (λ e. cc)

pub bad-line : (text : List ℕ) (p : Phase) (args : List (List ℕ)) (answers : List Answer) (count : ℕ) (rest : List ℕ) → HasRead text p args answers count rest → IsStuck p rest → (p ≡ phase.Start) ⊎ (0 < length rest) → IsBadLine text (count + 1)
bad-line text p args answers count rest was stuck left =
    record {
      no_log = not-log text p args answers count rest was stuck left;
      before = let e : count ≡ count + 1 - 1 = omega arith in subst (BeginsLog text) e (begins-log text p args answers count rest was);
      here = λ b. no-further text p args answers count rest was stuck b.args b.answers b.front b.back b.rest b.is_log b.items b.begins (omega (arith, b.count));
    }

-- the fault of a line, as one of the text
pub fault-of : (text : List ℕ) (k : ℕ) (f : LineFault) → (f ≡ fault.Unknown → IsBadLine text k) → IsFault text (fault_at k f)
fault-of text k fault.Unknown bad = bad refl
fault-of text k fault.NoMemory bad = tt
