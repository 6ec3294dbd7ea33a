-- A text is that of one log only.
use Rattle.std.proofs.Common.{◌≡◌, ℕ, ◌≤◌, inl, inr, List, [], ◌∷◌, ◌++◌, length, map, refl, sym, ap, ◌∙◌, append-nil, length-append, arith}
use Rattle.std.specs.List.{flat_map}
use Rattle.std.proofs.lemmas.Bool.{cases_lt}
use Rattle.syscall_log.specs.declared.effect.Effect.{Effect}
use Rattle.syscall_log.specs.declared.answer.Answer.{Answer}
use Rattle.syscall_log.specs.declared.answer.Answer.TheVariants as answer
use Rattle.syscall_log.specs.declared.item.Item.{Item}
use Rattle.syscall_log.specs.declared.item.Item.TheVariants as item
use Rattle.syscall_log.specs.declared.phase.Phase.TheVariants as phase
use Rattle.syscall_log.specs.Rules.{IsLog}
use Rattle.syscall_log.specs.Grammar.{answer_items, lines, line_of, items_of, text_of}
use Rattle.syscall_log.proofs.Splitting.{AreItems, split, lines-cons}
use Rattle.syscall_log.proofs.Runs.{AreItems-run, log_runs}

-- the arguments among items
args_in : List Item → List (List ℕ)
args_in [] = []
args_in (item.Header ∷ items) = args_in items
args_in (item.Arg bytes ∷ items) = bytes ∷ args_in items
args_in (item.Ret eax ∷ items) = args_in items
args_in (item.Change e ∷ items) = args_in items
args_in (item.Gone ∷ items) = args_in items
args_in (item.Cpuid eax ebx ecx edx ∷ items) = args_in items

-- the effects that items begin with
effects_in : List Item → List Effect
effects_in [] = []
effects_in (item.Header ∷ items) = []
effects_in (item.Arg bytes ∷ items) = []
effects_in (item.Ret eax ∷ items) = []
effects_in (item.Change e ∷ items) = e ∷ effects_in items
effects_in (item.Gone ∷ items) = []
effects_in (item.Cpuid eax ebx ecx edx ∷ items) = []

-- the answers among items
answers_in : List Item → List Answer
answers_in [] = []
answers_in (item.Header ∷ items) = answers_in items
answers_in (item.Arg bytes ∷ items) = answers_in items
answers_in (item.Ret eax ∷ items) = answer.Ret eax (effects_in items) ∷ answers_in items
answers_in (item.Change e ∷ items) = answers_in items
answers_in (item.Gone ∷ items) = answer.Gone ∷ answers_in items
answers_in (item.Cpuid eax ebx ecx edx ∷ items) = answer.Cpuid eax ebx ecx edx ∷ answers_in items

args_in-effects : (effects : List Effect) (items : List Item) → args_in (map item.Change effects ++ items) ≡ args_in items
unfolding args_in
args_in-effects [] items = refl
args_in-effects (e ∷ effects) items = args_in-effects effects items

args_in-answers : (answers : List Answer) → args_in (flat_map answer_items answers) ≡ []
unfolding args_in
args_in-answers [] = refl
args_in-answers (answer.Ret eax effects ∷ answers) = args_in-effects effects (flat_map answer_items answers) ∙ args_in-answers answers
args_in-answers (answer.Gone ∷ answers) = args_in-answers answers
args_in-answers (answer.Cpuid eax ebx ecx edx ∷ answers) = args_in-answers answers

args_in-items : (args : List (List ℕ)) (answers : List Answer) → args_in (map item.Arg args ++ flat_map answer_items answers) ≡ args
unfolding args_in
args_in-items [] answers = args_in-answers answers
args_in-items (a ∷ args) answers = ap (λ t. a ∷ t) (args_in-items args answers)

effects_in-answers : (answers : List Answer) → effects_in (flat_map answer_items answers) ≡ []
unfolding effects_in
effects_in-answers [] = refl
effects_in-answers (answer.Ret eax effects ∷ answers) = refl
effects_in-answers (answer.Gone ∷ answers) = refl
effects_in-answers (answer.Cpuid eax ebx ecx edx ∷ answers) = refl

effects_in-effects : (effects : List Effect) (answers : List Answer) → effects_in (map item.Change effects ++ flat_map answer_items answers) ≡ effects
unfolding effects_in
effects_in-effects [] answers = effects_in-answers answers
effects_in-effects (e ∷ effects) answers = ap (λ t. e ∷ t) (effects_in-effects effects answers)

answers_in-effects : (effects : List Effect) (items : List Item) → answers_in (map item.Change effects ++ items) ≡ answers_in items
unfolding answers_in
answers_in-effects [] items = refl
answers_in-effects (e ∷ effects) items = answers_in-effects effects items

answers_in-answers : (answers : List Answer) → answers_in (flat_map answer_items answers) ≡ answers
unfolding answers_in
answers_in-answers [] = refl
answers_in-answers (answer.Ret eax effects ∷ answers) =
    ap (λ t. answer.Ret eax t ∷ answers_in (map item.Change effects ++ flat_map answer_items answers)) (effects_in-effects effects answers)
    ∙ ap (λ t. answer.Ret eax effects ∷ t) (answers_in-effects effects (flat_map answer_items answers) ∙ answers_in-answers answers)
answers_in-answers (answer.Gone ∷ answers) = ap (λ t. answer.Gone ∷ t) (answers_in-answers answers)
answers_in-answers (answer.Cpuid eax ebx ecx edx ∷ answers) = ap (λ t. answer.Cpuid eax ebx ecx edx ∷ t) (answers_in-answers answers)

answers_in-items : (args : List (List ℕ)) (answers : List Answer) → answers_in (map item.Arg args ++ flat_map answer_items answers) ≡ answers
unfolding answers_in
answers_in-items [] answers = answers_in-answers answers
answers_in-items (a ∷ args) answers = answers_in-items args answers

-- items are those of one log only
one-items : (args args' : List (List ℕ)) (answers answers' : List Answer) → items_of args answers ≡ items_of args' answers' → (args ≡ args') × (answers ≡ answers')
unfolding args_in answers_in
one-items args args' answers answers' e = (
  sym (args_in-items args answers) ∙ ap args_in e ∙ args_in-items args' answers',
  sym (answers_in-items args answers) ∙ ap answers_in e ∙ answers_in-items args' answers',
)

-- of two lists of items with one text, the longer has nothing more
no-more : (xs ys zs : List Item) → ys ≡ xs ++ zs → [] ≡ lines zs ++ [] → xs ≡ ys
no-more xs ys [] is none = sym (is ∙ append-nil xs)
no-more xs ys (z ∷ zs) is none = absurd (omega (arith, ap length (none ∙ lines-cons z zs []), length-append (line_of z) (10 ∷ (lines zs ++ []))))

same-items : (xs ys : List Item) → AreItems xs → AreItems ys → length xs ≤ length ys → lines xs ≡ lines ys → xs ≡ ys
same-items xs ys x y le e =
    let s = split xs ys [] [] x y le (append-nil (lines xs) ∙ e ∙ sym (append-nil (lines ys))) in no-more xs ys s.0 s.1 s.2

pub one-log : (args args' : List (List ℕ)) (answers answers' : List Answer) → IsLog args answers → IsLog args' answers' → text_of args answers ≡ text_of args' answers' → (args ≡ args') × (answers ≡ answers')
unfolding text_of
one-log args args' answers answers' is is' e =
    let xs = items_of args answers in
    let ys = items_of args' answers' in
    let x = AreItems-run phase.Start xs (log_runs args answers is) in
    let y = AreItems-run phase.Start ys (log_runs args' answers' is') in
    elim (cases_lt (length xs) (length ys)) [
      | inl lt ↦ one-items args args' answers answers' (same-items xs ys x y (omega arith) e)
      | inr ge ↦ one-items args args' answers answers' (sym (same-items ys xs y x ge (sym e)))
    ]
