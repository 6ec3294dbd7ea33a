-- What was read so far: while items come that may come, it is a log from the header on.
use Rattle.std.proofs.Common.{◌≡◌, ◌≢◌, ℕ, ◌+◌, ◌<◌, ◌^◌, List, [], ◌∷◌, ◌++◌, length, map, refl, sym, ap, ◌∙◌, subst, append_assoc, append-nil, length-append, arith}
use Rattle.std.specs.List.{flat_map, All, AllByRecursion}
use Rattle.std.proofs.lemmas.List.Sums.{sum_by-append}
use Rattle.std.proofs.lemmas.List.Elements.{All-append, All-cons}
use Rattle.std.proofs.lemmas.List.Concat.{flat_map-append}
use Rattle.mv_base.specs.Effects.{IsEffect, IsAnswer}
use Rattle.syscall_log.specs.declared.effect.Effect.{Effect}
use Rattle.syscall_log.specs.declared.answer.Answer.{Answer}
use Rattle.syscall_log.specs.declared.answer.Answer.TheVariants as answer
use Rattle.syscall_log.specs.declared.item.Item.{Item}
use Rattle.syscall_log.specs.declared.item.Item.TheVariants as item
use Rattle.syscall_log.specs.declared.phase.Phase.{Phase}
use Rattle.syscall_log.specs.declared.phase.Phase.TheVariants as phase
use Rattle.syscall_log.specs.Meaning.{effect_of, answer_of}
use Rattle.syscall_log.specs.Rules.{IsArgument, AreArguments, AreAnswers, IsLog}
use Rattle.syscall_log.specs.Grammar.{answer_items, items_of}
use Rattle.syscall_log.specs.Phases.{IsItem, Fits, phase_after}
use Rattle.syscall_log.specs.Drafts.{args_with, with_effect, last_with_effect, answers_with}
use Rattle.syscall_log.proofs.Runs.{bytes_of}

-- answers none of which ends the program
abbrev pub GoesOn : Answer → Type 0
GoesOn (answer.Ret eax effects) = Unit {0}
GoesOn answer.Gone = ⊥
GoesOn (answer.Cpuid eax ebx ecx edx) = Unit {0}

abbrev pub AllGoOn : List Answer → Type 0
AllGoOn [] = Unit {0}
AllGoOn (a ∷ answers) = IsAnswer (answer_of a) × GoesOn a × AllGoOn answers

-- answers the last of which takes effects
abbrev pub TakesEffects : Answer → Type 0
TakesEffects (answer.Ret eax effects) = Unit {0}
TakesEffects answer.Gone = ⊥
TakesEffects (answer.Cpuid eax ebx ecx edx) = ⊥

abbrev pub LastTakesEffects : List Answer → Type 0
LastTakesEffects [] = ⊥
LastTakesEffects (a ∷ []) = TakesEffects a
LastTakesEffects (a ∷ b ∷ answers) = LastTakesEffects (b ∷ answers)

-- what a phase says of the arguments and answers so far
abbrev pub Tied : Phase → List (List ℕ) → List Answer → Type 0
Tied phase.Start args answers = (args ≡ []) × (answers ≡ [])
Tied (phase.Arguments places room) args answers =
    (answers ≡ []) × (places + length args ≡ 1024) × (room + bytes_of args ≡ 65536) × All IsArgument args
Tied phase.Answers args answers = AreArguments args × AllGoOn answers × LastTakesEffects answers
Tied phase.Settled args answers = AreArguments args × AllGoOn answers
Tied phase.Over args answers = IsLog args answers

-- the items so far
abbrev pub items_so_far : Phase → List (List ℕ) → List Answer → List Item
items_so_far phase.Start args answers = []
items_so_far (phase.Arguments places room) args answers = items_of args answers
items_so_far phase.Answers args answers = items_of args answers
items_so_far phase.Settled args answers = items_of args answers
items_so_far phase.Over args answers = items_of args answers

-- an item more
pub record Adds (p : Phase) (args : List (List ℕ)) (answers : List Answer) (i : Item) : Type 0 where
  pub tied : Tied (phase_after p i) (args_with args i) (answers_with answers i)
  pub items : items_so_far (phase_after p i) (args_with args i) (answers_with answers i) ≡ items_so_far p args answers ++ i ∷ []

AreAnswers-on : (answers : List Answer) → AllGoOn answers → AreAnswers answers
AreAnswers-on [] on = tt
AreAnswers-on (answer.Ret eax effects ∷ answers) on = (on.0, tt, AreAnswers-on answers on.2)
AreAnswers-on (answer.Gone ∷ answers) on = absurd on.1
AreAnswers-on (answer.Cpuid eax ebx ecx edx ∷ answers) on = (on.0, tt, AreAnswers-on answers on.2)

AreAnswers-gone : (answers : List Answer) → AllGoOn answers → AreAnswers (answers ++ answer.Gone ∷ [])
AreAnswers-gone [] on = (tt, refl, tt)
AreAnswers-gone (answer.Ret eax effects ∷ answers) on = (on.0, tt, AreAnswers-gone answers on.2)
AreAnswers-gone (answer.Gone ∷ answers) on = absurd on.1
AreAnswers-gone (answer.Cpuid eax ebx ecx edx ∷ answers) on = (on.0, tt, AreAnswers-gone answers on.2)

AllGoOn-more : (answers : List Answer) (a : Answer) → AllGoOn answers → IsAnswer (answer_of a) → GoesOn a → AllGoOn (answers ++ a ∷ [])
AllGoOn-more [] a on is goes = (is, goes, tt)
AllGoOn-more (b ∷ answers) a on is goes = (on.0, on.1, AllGoOn-more answers a on.2 is goes)

LastTakesEffects-more : (answers : List Answer) (a : Answer) → TakesEffects a → LastTakesEffects (answers ++ a ∷ [])
LastTakesEffects-more [] a takes = takes
LastTakesEffects-more (b ∷ []) a takes = takes
LastTakesEffects-more (b ∷ d ∷ answers) a takes = LastTakesEffects-more (d ∷ answers) a takes

AreEffects-more : (effects : List Effect) (e : Effect) → AllByRecursion IsEffect (map effect_of effects) → IsEffect (effect_of e) → AllByRecursion IsEffect (map effect_of (effects ++ e ∷ []))
AreEffects-more [] e are is = (is, tt)
AreEffects-more (f ∷ effects) e are is = (are.0, AreEffects-more effects e are.1 is)

AllGoOn-effect : (answers : List Answer) (e : Effect) → AllGoOn answers → IsEffect (effect_of e) → AllGoOn (last_with_effect answers e)
AllGoOn-effect [] e on is = tt
AllGoOn-effect (answer.Ret eax effects ∷ []) e on is = ((on.0.0, AreEffects-more effects e on.0.1 is), tt, tt)
AllGoOn-effect (answer.Gone ∷ []) e on is = absurd on.1
AllGoOn-effect (answer.Cpuid eax ebx ecx edx ∷ []) e on is = on
AllGoOn-effect (a ∷ b ∷ answers) e on is = (on.0, on.1, AllGoOn-effect (b ∷ answers) e on.2 is)

TakesEffects-effect : (a : Answer) (e : Effect) → TakesEffects a → TakesEffects (with_effect a e)
TakesEffects-effect (answer.Ret eax effects) e takes = tt
TakesEffects-effect answer.Gone e takes = takes
TakesEffects-effect (answer.Cpuid eax ebx ecx edx) e takes = takes

LastTakesEffects-effect : (answers : List Answer) (e : Effect) → LastTakesEffects answers → LastTakesEffects (last_with_effect answers e)
LastTakesEffects-effect [] e takes = takes
LastTakesEffects-effect (a ∷ []) e takes = TakesEffects-effect a e takes
LastTakesEffects-effect (a ∷ b ∷ []) e takes = TakesEffects-effect b e takes
LastTakesEffects-effect (a ∷ b ∷ d ∷ answers) e takes = LastTakesEffects-effect (b ∷ d ∷ answers) e takes

map-more : (effects : List Effect) (e : Effect) → map item.Change (effects ++ e ∷ []) ≡ map item.Change effects ++ item.Change e ∷ []
map-more [] e = refl
map-more (f ∷ effects) e = ap (λ t. item.Change f ∷ t) (map-more effects e)

args-more : (args : List (List ℕ)) (bytes : List ℕ) → map item.Arg (args ++ bytes ∷ []) ≡ map item.Arg args ++ item.Arg bytes ∷ []
args-more [] bytes = refl
args-more (a ∷ args) bytes = ap (λ t. item.Arg a ∷ t) (args-more args bytes)

items-effect : (answers : List Answer) (e : Effect) → LastTakesEffects answers → flat_map answer_items (last_with_effect answers e) ≡ flat_map answer_items answers ++ item.Change e ∷ []
items-effect [] e takes = absurd takes
items-effect (answer.Ret eax effects ∷ []) e takes =
    let before = map item.Change effects in
    ap (λ t. item.Ret eax ∷ t) (append-nil (map item.Change (effects ++ e ∷ [])) ∙ map-more effects e ∙ sym (append_assoc before [] (item.Change e ∷ [])))
items-effect (answer.Gone ∷ []) e takes = absurd takes
items-effect (answer.Cpuid eax ebx ecx edx ∷ []) e takes = absurd takes
items-effect (a ∷ b ∷ answers) e takes =
    ap (λ t. answer_items a ++ t) (items-effect (b ∷ answers) e takes) ∙ sym (append_assoc (answer_items a) (flat_map answer_items (b ∷ answers)) (item.Change e ∷ []))

items-answer : (args : List (List ℕ)) (answers more : List Answer) → items_of args (answers ++ more) ≡ items_of args answers ++ flat_map answer_items more
items-answer args answers more =
    ap (λ t. item.Header ∷ (map item.Arg args ++ t)) (flat_map-append answer_items answers more)
    ∙ ap (λ t. item.Header ∷ t) (sym (append_assoc (map item.Arg args) (flat_map answer_items answers) (flat_map answer_items more)))

-- the arguments' bounds, from what the phase leaves
AreArguments-tied : (places room : ℕ) (args : List (List ℕ)) → places + length args ≡ 1024 → room + bytes_of args ≡ 65536 → All IsArgument args → AreArguments args
AreArguments-tied places room args few short each = record { few = omega arith; short = omega arith; each = each }

adds-header : Adds phase.Start [] [] item.Header
adds-header = record { tied = (refl, refl, refl, λ k d below. absurd (omega arith)); items = refl }

adds-argument : (places room : ℕ) (args : List (List ℕ)) (bytes : List ℕ) → Tied (phase.Arguments places room) args [] → IsArgument bytes → 0 < places → length bytes < room → Adds (phase.Arguments places room) args [] (item.Arg bytes)
adds-argument places room args bytes tied is some fits =
    let sum = sum_by-append (λ a. length a + 1) args (bytes ∷ []) in
    record {
      tied = (
        refl,
        omega (arith, length-append args (bytes ∷ []), tied.1),
        omega (arith, sum, tied.2),
        All-append IsArgument args (bytes ∷ []) tied.3 (All-cons IsArgument bytes [] is (λ k d below. absurd (omega arith))),
      );
      items = simp append-nil (ap (λ t. item.Header ∷ t) (args-more args bytes));
    }

-- an answer adds to arguments and to answers
adds-ret : (p : Phase) (args : List (List ℕ)) (answers : List Answer) (eax : ℕ) → AreArguments args → AllGoOn answers → eax < 2 ^ 32 → items_so_far p args answers ≡ items_of args answers → Adds p args answers (item.Ret eax)
adds-ret p args answers eax are on small so_far =
    record {
      tied = (are, AllGoOn-more answers (answer.Ret eax []) on (small, tt) tt, LastTakesEffects-more answers (answer.Ret eax []) tt);
      items = items-answer args answers (answer.Ret eax [] ∷ []) ∙ ap (λ t. t ++ item.Ret eax ∷ []) (sym so_far);
    }

adds-gone : (p : Phase) (args : List (List ℕ)) (answers : List Answer) → AreArguments args → AllGoOn answers → items_so_far p args answers ≡ items_of args answers → Adds p args answers item.Gone
adds-gone p args answers are on so_far =
    record {
      tied = record { arguments = are; answers_keep = AreAnswers-gone answers on };
      items = items-answer args answers (answer.Gone ∷ []) ∙ ap (λ t. t ++ item.Gone ∷ []) (sym so_far);
    }

adds-cpuid : (p : Phase) (args : List (List ℕ)) (answers : List Answer) (eax ebx ecx edx : ℕ) → AreArguments args → AllGoOn answers → IsItem (item.Cpuid eax ebx ecx edx) → items_so_far p args answers ≡ items_of args answers → Adds p args answers (item.Cpuid eax ebx ecx edx)
adds-cpuid p args answers eax ebx ecx edx are on is so_far =
    record {
      tied = (are, AllGoOn-more answers (answer.Cpuid eax ebx ecx edx) on is tt);
      items = items-answer args answers (answer.Cpuid eax ebx ecx edx ∷ []) ∙ ap (λ t. t ++ item.Cpuid eax ebx ecx edx ∷ []) (sym so_far);
    }

-- an item that may come adds to what was read
pub adds : (p : Phase) (args : List (List ℕ)) (answers : List Answer) (i : Item) → Tied p args answers → IsItem i → Fits p i → Adds p args answers i
adds phase.Start args answers item.Header tied is fits =
    subst (λ a. Adds phase.Start a answers item.Header) (sym tied.0) (subst (λ s. Adds phase.Start [] s item.Header) (sym tied.1) adds-header)
adds (phase.Arguments places room) args answers (item.Arg bytes) tied is fits =
    subst (λ s. Adds (phase.Arguments places room) args s (item.Arg bytes)) (sym tied.0) (adds-argument places room args bytes (refl, tied.1, tied.2, tied.3) is fits.0 fits.1)
adds (phase.Arguments places room) args answers (item.Ret eax) tied is fits =
    adds-ret (phase.Arguments places room) args answers eax (AreArguments-tied places room args tied.1 tied.2 tied.3) (subst AllGoOn (sym tied.0) tt) is refl
adds (phase.Arguments places room) args answers item.Gone tied is fits =
    adds-gone (phase.Arguments places room) args answers (AreArguments-tied places room args tied.1 tied.2 tied.3) (subst AllGoOn (sym tied.0) tt) refl
adds (phase.Arguments places room) args answers (item.Cpuid eax ebx ecx edx) tied is fits =
    adds-cpuid (phase.Arguments places room) args answers eax ebx ecx edx (AreArguments-tied places room args tied.1 tied.2 tied.3) (subst AllGoOn (sym tied.0) tt) is refl
adds phase.Answers args answers (item.Ret eax) tied is fits = adds-ret phase.Answers args answers eax tied.0 tied.1 is refl
adds phase.Answers args answers (item.Change e) tied is fits =
    record {
      tied = (tied.0, AllGoOn-effect answers e tied.1 is, LastTakesEffects-effect answers e tied.2);
      items =
          ap (λ t. item.Header ∷ (map item.Arg args ++ t)) (items-effect answers e tied.2)
          ∙ ap (λ t. item.Header ∷ t) (sym (append_assoc (map item.Arg args) (flat_map answer_items answers) (item.Change e ∷ [])));
    }
adds phase.Answers args answers item.Gone tied is fits = adds-gone phase.Answers args answers tied.0 tied.1 refl
adds phase.Answers args answers (item.Cpuid eax ebx ecx edx) tied is fits =
    adds-cpuid phase.Answers args answers eax ebx ecx edx tied.0 tied.1 is refl
adds phase.Settled args answers (item.Ret eax) tied is fits = adds-ret phase.Settled args answers eax tied.0 tied.1 is refl
adds phase.Settled args answers item.Gone tied is fits = adds-gone phase.Settled args answers tied.0 tied.1 refl
adds phase.Settled args answers (item.Cpuid eax ebx ecx edx) tied is fits =
    adds-cpuid phase.Settled args answers eax ebx ecx edx tied.0 tied.1 is refl
adds p args answers i tied is fits = absurd fits

-- what was read is a log, from the header on
pub log-so-far : (p : Phase) (args : List (List ℕ)) (answers : List Answer) → Tied p args answers → p ≢ phase.Start → IsLog args answers × (items_so_far p args answers ≡ items_of args answers)
log-so-far phase.Start args answers tied begun = absurd (begun refl)
log-so-far (phase.Arguments places room) args answers tied begun = (
  record {
    arguments = AreArguments-tied places room args tied.1 tied.2 tied.3;
    answers_keep = subst AreAnswers (sym tied.0) tt;
  },
  refl,
)
log-so-far phase.Answers args answers tied begun =
    (record { arguments = tied.0; answers_keep = AreAnswers-on answers tied.1 }, refl)
log-so-far phase.Settled args answers tied begun =
    (record { arguments = tied.0; answers_keep = AreAnswers-on answers tied.1 }, refl)
log-so-far phase.Over args answers tied begun = (tied, refl)

-- the last answer with an effect more
last-effect : (front : List Answer) (a : Answer) (e : Effect) → last_with_effect (front ++ a ∷ []) e ≡ front ++ with_effect a e ∷ []
last-effect [] a e = refl
last-effect (b ∷ []) a e = refl
last-effect (b ∷ d ∷ front) a e = ap (λ t. b ∷ t) (last-effect (d ∷ front) a e)

-- answers whose last one was taken out, changed and put back
pub changed-last : (answers before new : List Answer) (a b : Answer) (e : Effect) (i : Item) → answers ≡ before ++ a ∷ [] → b ≡ with_effect a e → new ≡ before ++ b ∷ [] → i ≡ item.Change e → new ≡ answers_with answers i
changed-last answers before new a b e i taken changed put is =
    put
    ∙ ap (λ x. before ++ x ∷ []) changed
    ∙ sym (last-effect before a e)
    ∙ ap (λ xs. last_with_effect xs e) (sym taken)
    ∙ ap (answers_with answers) (sym is)
