-- How a line is read: each function gives what its text spells, or nothing.
use Rattle.std.specs.Prelude.{ℕ, ◌==◌, if◌then◌else◌, List, [], length, take, drop, codes, Option, Some, None, option_map, option_and_then}
use Rattle.std.specs.Option.{option_map_or}
use Rattle.std.specs.Str.{bytes_eq}
use Rattle.mv_base.specs.Reading.{behind, number_in, pairs_in}
use Rattle.syscall_log.specs.declared.effect.Mode.{Mode}
use Rattle.syscall_log.specs.declared.effect.Mode.TheVariants as mode
use Rattle.syscall_log.specs.declared.effect.Effect.{Effect}
use Rattle.syscall_log.specs.declared.effect.Effect.TheVariants as effect
use Rattle.syscall_log.specs.declared.item.Item.{Item}
use Rattle.syscall_log.specs.declared.item.Item.TheVariants as item

-- one byte at least
unfoldable pub hex_in : List ℕ → Option (List ℕ)
hex_in text = if length text == 0 then None else pairs_in text

-- bytes, or a dash for none
unfoldable pub bytes_in : List ℕ → Option (List ℕ)
bytes_in text = if bytes_eq text (codes "-") then Some [] else hex_in text

-- a number and a space, and what stands behind them
unfoldable pub number_and : List ℕ → Option (ℕ × List ℕ)
number_and text =
    option_and_then (λ n. option_map (λ rest. (n, rest)) (behind (codes " ") (drop 8 text))) (number_in (take 8 text))

-- a mode and a space, and what stands behind them
unfoldable pub mode_and : List ℕ → Option (Mode × List ℕ)
mode_and text =
    option_map_or (λ rest. Some (mode.Read, rest)) (behind (codes "r ") text) (
    option_map_or (λ rest. Some (mode.Write, rest)) (behind (codes "w ") text) (
    option_map (λ rest. (mode.Exec, rest)) (behind (codes "x ") text)))

-- what follows the word of an effect
unfoldable pub write_in : List ℕ → Option Effect
write_in text =
    option_and_then (λ (lo, rest). option_map (λ bytes. effect.Write lo bytes) (hex_in rest)) (number_and text)

unfoldable pub map_in : List ℕ → Option Effect
map_in text =
    option_and_then (λ (lo, rest).
    option_and_then (λ (len, rest').
    option_and_then (λ (mode, rest''). option_map (λ bytes. effect.Map lo len mode bytes) (bytes_in rest''))
    (mode_and rest'))
    (number_and rest))
    (number_and text)

unfoldable pub unmap_in : List ℕ → Option Effect
unmap_in text = option_and_then (λ (lo, rest). option_map (λ len. effect.Unmap lo len) (number_in rest)) (number_and text)

unfoldable pub desc_in : List ℕ → Option Effect
desc_in text =
    option_and_then (λ (index, rest). option_map (λ base. effect.Desc index base) (number_in rest)) (number_and text)

-- the effect of a line
unfoldable pub effect_in : List ℕ → Option Effect
effect_in line =
    option_map_or write_in (behind (codes "write ") line) (
    option_map_or map_in (behind (codes "map ") line) (
    option_map_or unmap_in (behind (codes "unmap ") line) (
    option_map_or desc_in (behind (codes "desc ") line) None)))

-- what follows the word of an answer to CPUID
unfoldable pub cpuid_in : List ℕ → Option Item
cpuid_in text =
    option_and_then (λ (eax, rest).
    option_and_then (λ (ebx, rest').
    option_and_then (λ (ecx, rest''). option_map (λ edx. item.Cpuid eax ebx ecx edx) (number_in rest''))
    (number_and rest'))
    (number_and rest))
    (number_and text)

-- the item of a line
unfoldable pub item_in : List ℕ → Option Item
item_in line =
    if bytes_eq line (codes "log 1") then Some item.Header
    else (if bytes_eq line (codes "gone") then Some item.Gone
    else (option_map_or (λ text. option_map item.Arg (bytes_in text)) (behind (codes "arg ") line) (
    option_map_or (λ text. option_map item.Ret (number_in text)) (behind (codes "ret ") line) (
    option_map_or cpuid_in (behind (codes "cpuid ") line) (
    option_map item.Change (effect_in line))))))
