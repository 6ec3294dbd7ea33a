-- A log as far as it was read: its arguments and answers with an item more.
use Rattle.std.specs.Prelude.{ℕ, List, [], ◌∷◌, ◌++◌}
use Rattle.syscall_log.specs.declared.effect.Effect.{Effect}
use Rattle.syscall_log.specs.declared.answer.Answer.{Answer}
use Rattle.syscall_log.specs.declared.answer.Answer.TheVariants as answer
use Rattle.syscall_log.specs.declared.item.Item.{Item}
use Rattle.syscall_log.specs.declared.item.Item.TheVariants as item

abbrev pub args_with : List (List ℕ) → Item → List (List ℕ)
args_with args item.Header = args
args_with args (item.Arg bytes) = args ++ bytes ∷ []
args_with args (item.Ret eax) = args
args_with args (item.Change effect) = args
args_with args item.Gone = args
args_with args (item.Cpuid eax ebx ecx edx) = args

-- an answer with an effect more, if it takes effects
abbrev pub with_effect : Answer → Effect → Answer
with_effect (answer.Ret eax effects) e = answer.Ret eax (effects ++ e ∷ [])
with_effect answer.Gone e = answer.Gone
with_effect (answer.Cpuid eax ebx ecx edx) e = answer.Cpuid eax ebx ecx edx

-- answers of which the last has an effect more
abbrev pub last_with_effect : List Answer → Effect → List Answer
last_with_effect [] e = []
last_with_effect (a ∷ []) e = with_effect a e ∷ []
last_with_effect (a ∷ b ∷ answers) e = a ∷ last_with_effect (b ∷ answers) e

abbrev pub answers_with : List Answer → Item → List Answer
answers_with answers item.Header = answers
answers_with answers (item.Arg bytes) = answers
answers_with answers (item.Ret eax) = answers ++ answer.Ret eax [] ∷ []
answers_with answers (item.Change effect) = last_with_effect answers effect
answers_with answers item.Gone = answers ++ answer.Gone ∷ []
answers_with answers (item.Cpuid eax ebx ecx edx) = answers ++ answer.Cpuid eax ebx ecx edx ∷ []
