-- The text of a log: one line an item, each ended by a line feed; words with one space between them. This project's own.
use Rattle.std.specs.Prelude.{ℕ, List, [], ◌∷◌, ◌++◌, map, codes}
use Rattle.std.specs.List.{flat_map, join_with_byte}
use Rattle.mv_base.specs.Text.{hex8, hex_text}
use Rattle.syscall_log.specs.declared.effect.Mode.{Mode}
use Rattle.syscall_log.specs.declared.effect.Mode.TheVariants as mode
use Rattle.syscall_log.specs.declared.effect.Effect.{Effect}
use Rattle.syscall_log.specs.declared.effect.Effect.TheVariants as effect
use Rattle.syscall_log.specs.declared.answer.Answer.{Answer}
use Rattle.syscall_log.specs.declared.answer.Answer.TheVariants as answer
use Rattle.syscall_log.specs.declared.item.Item.{Item}
use Rattle.syscall_log.specs.declared.item.Item.TheVariants as item

-- a number below 2 ^ 32: eight lower-case hexadecimal digits
unfoldable pub number_text : ℕ → List ℕ
number_text n = hex8 n

-- bytes, of which there may be none: then a dash
abbrev pub bytes_text : List ℕ → List ℕ
bytes_text [] = codes "-"
bytes_text (b ∷ bytes) = hex_text (b ∷ bytes)

abbrev pub mode_text : Mode → List ℕ
mode_text mode.Read = codes "r"
mode_text mode.Write = codes "w"
mode_text mode.Exec = codes "x"

-- the words of an effect's line
abbrev pub effect_words : Effect → List (List ℕ)
effect_words (effect.Write lo bytes) = codes "write" ∷ number_text lo ∷ hex_text bytes ∷ []
effect_words (effect.Map lo len mode bytes) =
    codes "map" ∷ number_text lo ∷ number_text len ∷ mode_text mode ∷ bytes_text bytes ∷ []
effect_words (effect.Unmap lo len) = codes "unmap" ∷ number_text lo ∷ number_text len ∷ []
effect_words (effect.Desc index base) = codes "desc" ∷ number_text index ∷ number_text base ∷ []

-- the words of an item's line
abbrev pub item_words : Item → List (List ℕ)
item_words item.Header = codes "log" ∷ codes "1" ∷ []
item_words (item.Arg bytes) = codes "arg" ∷ bytes_text bytes ∷ []
item_words (item.Ret eax) = codes "ret" ∷ number_text eax ∷ []
item_words (item.Change effect) = effect_words effect
item_words item.Gone = codes "gone" ∷ []
item_words (item.Cpuid eax ebx ecx edx) =
    codes "cpuid" ∷ number_text eax ∷ number_text ebx ∷ number_text ecx ∷ number_text edx ∷ []

-- an item's line, without its line feed
abbrev pub line_of : Item → List ℕ
line_of i = join_with_byte 32 (item_words i)

-- the text of items, one line each
abbrev pub lines : List Item → List ℕ
lines items = flat_map (λ i. line_of i ++ 10 ∷ []) items

-- an answer, and its effects behind it
abbrev pub answer_items : Answer → List Item
answer_items (answer.Ret eax effects) = item.Ret eax ∷ map item.Change effects
answer_items answer.Gone = item.Gone ∷ []
answer_items (answer.Cpuid eax ebx ecx edx) = item.Cpuid eax ebx ecx edx ∷ []

-- the items of a log: the header, the arguments, the answers
abbrev pub items_of : List (List ℕ) → List Answer → List Item
items_of args answers = item.Header ∷ (map item.Arg args ++ flat_map answer_items answers)

-- the text of a log
unfoldable pub text_of : List (List ℕ) → List Answer → List ℕ
text_of args answers = lines (items_of args answers)
