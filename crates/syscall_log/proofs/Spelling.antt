-- The line of an item is read as the item, and a line that is read as an item is its line.
use Rattle.std.proofs.Common.{◌≡◌, ℕ, ◌<◌, ◌^◌, List, ◌∷◌, ◌++◌, take, drop, Some, None, option_map, option_and_then, refl, ap, ◌∙◌, arith}
use Rattle.std.specs.Str.{bytes_eq}
use Rattle.std.specs.Prelude.{codes}
use Rattle.std.specs.List.{join_with_byte}
use Rattle.std.proofs.lemmas.List.{take-append-drop}
use Rattle.std.proofs.lemmas.Option.{none-some, same_Some, option_and_then_some}
use Rattle.std.proofs.lemmas.Slice.Eq.{bytes_eq-Decides}
use Rattle.mv_base.specs.Effects.{IsEffect}
use Rattle.syscall_log.specs.declared.effect.Mode.{Mode}
use Rattle.syscall_log.specs.declared.effect.Mode.TheVariants as mode
use Rattle.syscall_log.specs.declared.effect.Effect.{Effect}
use Rattle.syscall_log.specs.declared.effect.Effect.TheVariants as effect
use Rattle.syscall_log.specs.declared.item.Item.{Item}
use Rattle.syscall_log.specs.declared.item.Item.TheVariants as item
use Rattle.mv_base.specs.Text.{hex_text}
use Rattle.syscall_log.specs.Grammar.{number_text, bytes_text, mode_text, effect_words, line_of}
use Rattle.syscall_log.specs.Meaning.{effect_of}
use Rattle.syscall_log.specs.Rules.{IsArgument}
use Rattle.syscall_log.specs.Phases.{IsItem}
use Rattle.mv_base.specs.Reading.{behind, number_in}
use Rattle.syscall_log.specs.Reading.{number_and, mode_and, hex_in, bytes_in, write_in, map_in, unmap_in, desc_in, effect_in, cpuid_in, item_in}
use Rattle.syscall_log.proofs.Steps.{found-if, found-map, found-map_or}
use Rattle.mv_base.specs.Prefixes.{behind-takes}
use Rattle.syscall_log.proofs.Numbers.{number-again, number-found, hex-again, hex-found, bytes-again, bytes-found}

-- a number and a space
and-again : (n : ℕ) (rest : List ℕ) → n < 2 ^ 32 → number_and (number_text n ++ 32 ∷ rest) ≡ Some (n, rest)
unfolding number_and number_text behind
and-again n rest small = ap (option_and_then (λ m. option_map (λ r. (m, r)) (Some rest))) (number-again n small)

and-found : (text rest : List ℕ) (n : ℕ) → number_and text ≡ Some (n, rest) → text ≡ number_text n ++ 32 ∷ rest
unfolding number_and
and-found text rest n is =
    option_and_then_some _ (number_in (take 8 text)) (n, rest) is (λ m is_number more.
    found-map (λ r. (m, r)) (behind (codes " ") (drop 8 text)) (n, rest) (λ r is_rest same.
    let whole : take 8 text ++ drop 8 text ≡ text = take-append-drop 8 text in
    let front : take 8 text ≡ number_text m = number-found (take 8 text) m is_number in
    let back : drop 8 text ≡ 32 ∷ r = behind-takes (codes " ") (drop 8 text) r is_rest in
    let same_number : m ≡ n = ap (λ p. p.0) same in
    let same_rest : r ≡ rest = ap (λ p. p.1) same in cc) more)

-- a mode and a space
mode-again : (m : Mode) (rest : List ℕ) → mode_and (mode_text m ++ 32 ∷ rest) ≡ Some (m, rest)
unfolding mode_and behind
mode-again mode.Read rest = refl
mode-again mode.Write rest = refl
mode-again mode.Exec rest = refl

mode-is : (text r rest : List ℕ) (k m : Mode) → text ≡ mode_text k ++ 32 ∷ r → ◌≡◌ {A = Mode × List ℕ} (k, r) (m, rest) → text ≡ mode_text m ++ 32 ∷ rest
mode-is text r rest k m is same = is ∙ ap (λ p. mode_text p.0 ++ 32 ∷ p.1) same

mode-found : (text rest : List ℕ) (m : Mode) → mode_and text ≡ Some (m, rest) → text ≡ mode_text m ++ 32 ∷ rest
unfolding mode_and
mode-found text rest m is =
    found-map_or _ (behind (codes "r ") text) _ (m, rest) (λ r at same. mode-is text r rest mode.Read m (behind-takes (codes "r ") text r at) (same_Some _ _ same)) (
    found-map_or _ (behind (codes "w ") text) _ (m, rest) (λ r at same. mode-is text r rest mode.Write m (behind-takes (codes "w ") text r at) (same_Some _ _ same)) (
    found-map _ (behind (codes "x ") text) (m, rest) (λ r at same. mode-is text r rest mode.Exec m (behind-takes (codes "x ") text r at) same))) is

-- an effect's line
abbrev effect_line : Effect → List ℕ
effect_line e = join_with_byte 32 (effect_words e)

effect-again : (e : Effect) → IsEffect (effect_of e) → effect_in (effect_line e) ≡ Some e
unfolding effect_in write_in map_in unmap_in desc_in behind
effect-again (effect.Write lo bytes) is =
    ap (option_and_then (λ p. option_map (λ bytes. effect.Write p.0 bytes) (hex_in p.1))) (and-again lo (hex_text bytes) (omega arith))
    ∙ ap (option_map (λ bytes. effect.Write lo bytes)) (hex-again bytes is.bytes is.some)
effect-again (effect.Map lo len m bytes) is =
    ap (option_and_then (λ p. option_and_then (λ q. option_and_then (λ r. option_map (λ bytes. effect.Map p.0 q.0 r.0 bytes) (bytes_in r.1)) (mode_and q.1)) (number_and p.1)))
    (and-again lo (number_text len ++ 32 ∷ (mode_text m ++ 32 ∷ bytes_text bytes)) (omega arith))
    ∙ ap (option_and_then (λ q. option_and_then (λ r. option_map (λ bytes. effect.Map lo q.0 r.0 bytes) (bytes_in r.1)) (mode_and q.1)))
    (and-again len (mode_text m ++ 32 ∷ bytes_text bytes) (omega arith))
    ∙ ap (option_and_then (λ r. option_map (λ bytes. effect.Map lo len r.0 bytes) (bytes_in r.1))) (mode-again m (bytes_text bytes))
    ∙ ap (option_map (λ bytes. effect.Map lo len m bytes)) (bytes-again bytes is.bytes)
effect-again (effect.Unmap lo len) is =
    ap (option_and_then (λ p. option_map (λ len. effect.Unmap p.0 len) (number_in p.1))) (and-again lo (number_text len) (omega arith))
    ∙ ap (option_map (λ len. effect.Unmap lo len)) (number-again len (omega arith))
effect-again (effect.Desc index base) is =
    ap (option_and_then (λ p. option_map (λ base. effect.Desc p.0 base) (number_in p.1))) (and-again index (number_text base) (omega (arith, is.some.most)))
    ∙ ap (option_map (λ base. effect.Desc index base)) (number-again base is.some.fits)

write-found : (text : List ℕ) (e : Effect) → write_in text ≡ Some e → codes "write " ++ text ≡ effect_line e
unfolding write_in
write-found text e is =
    option_and_then_some _ (number_and text) e is (λ p at_lo more.
    found-map (λ bytes. effect.Write p.0 bytes) (hex_in p.1) e (λ bytes at_bytes same.
    ap (λ t. codes "write " ++ t) (and-found text p.1 p.0 at_lo ∙ ap (λ t. number_text p.0 ++ 32 ∷ t) (hex-found p.1 bytes at_bytes).0)
    ∙ ap effect_line same) more)

map-found : (text : List ℕ) (e : Effect) → map_in text ≡ Some e → codes "map " ++ text ≡ effect_line e
unfolding map_in
map-found text e is =
    option_and_then_some _ (number_and text) e is (λ p at_lo more.
    option_and_then_some _ (number_and p.1) e more (λ q at_len more.
    option_and_then_some _ (mode_and q.1) e more (λ r at_mode more.
    found-map (λ bytes. effect.Map p.0 q.0 r.0 bytes) (bytes_in r.1) e (λ bytes at_bytes same.
    ap (λ t. codes "map " ++ t) (and-found text p.1 p.0 at_lo)
    ∙ ap (λ t. codes "map " ++ number_text p.0 ++ 32 ∷ t) (and-found p.1 q.1 q.0 at_len)
    ∙ ap (λ t. codes "map " ++ number_text p.0 ++ 32 ∷ (number_text q.0 ++ 32 ∷ t)) (mode-found q.1 r.1 r.0 at_mode)
    ∙ ap (λ t. codes "map " ++ number_text p.0 ++ 32 ∷ (number_text q.0 ++ 32 ∷ (mode_text r.0 ++ 32 ∷ t))) (bytes-found r.1 bytes at_bytes)
    ∙ ap effect_line same) more)))

unmap-found : (text : List ℕ) (e : Effect) → unmap_in text ≡ Some e → codes "unmap " ++ text ≡ effect_line e
unfolding unmap_in
unmap-found text e is =
    option_and_then_some _ (number_and text) e is (λ p at_lo more.
    found-map (λ len. effect.Unmap p.0 len) (number_in p.1) e (λ len at_len same.
    ap (λ t. codes "unmap " ++ t) (and-found text p.1 p.0 at_lo ∙ ap (λ t. number_text p.0 ++ 32 ∷ t) (number-found p.1 len at_len))
    ∙ ap effect_line same) more)

desc-found : (text : List ℕ) (e : Effect) → desc_in text ≡ Some e → codes "desc " ++ text ≡ effect_line e
unfolding desc_in
desc-found text e is =
    option_and_then_some _ (number_and text) e is (λ p at_index more.
    found-map (λ base. effect.Desc p.0 base) (number_in p.1) e (λ base at_base same.
    ap (λ t. codes "desc " ++ t) (and-found text p.1 p.0 at_index ∙ ap (λ t. number_text p.0 ++ 32 ∷ t) (number-found p.1 base at_base))
    ∙ ap effect_line same) more)

effect-found : (line : List ℕ) (e : Effect) → effect_in line ≡ Some e → line ≡ effect_line e
unfolding effect_in
effect-found line e is =
    found-map_or write_in (behind (codes "write ") line) _ e (λ text at found. behind-takes (codes "write ") line text at ∙ write-found text e found) (
    found-map_or map_in (behind (codes "map ") line) _ e (λ text at found. behind-takes (codes "map ") line text at ∙ map-found text e found) (
    found-map_or unmap_in (behind (codes "unmap ") line) _ e (λ text at found. behind-takes (codes "unmap ") line text at ∙ unmap-found text e found) (
    found-map_or desc_in (behind (codes "desc ") line) None e (λ text at found. behind-takes (codes "desc ") line text at ∙ desc-found text e found)
    (λ none. absurd (none-some e none))))) is

-- an answer to CPUID
cpuid-again : (eax ebx ecx edx : ℕ) → IsItem (item.Cpuid eax ebx ecx edx) → cpuid_in (number_text eax ++ 32 ∷ (number_text ebx ++ 32 ∷ (number_text ecx ++ 32 ∷ number_text edx))) ≡ Some (item.Cpuid eax ebx ecx edx)
unfolding cpuid_in
cpuid-again eax ebx ecx edx is =
    ap (option_and_then (λ p. option_and_then (λ q. option_and_then (λ r. option_map (λ d. item.Cpuid p.0 q.0 r.0 d) (number_in r.1)) (number_and q.1)) (number_and p.1)))
    (and-again eax (number_text ebx ++ 32 ∷ (number_text ecx ++ 32 ∷ number_text edx)) is.0)
    ∙ ap (option_and_then (λ q. option_and_then (λ r. option_map (λ d. item.Cpuid eax q.0 r.0 d) (number_in r.1)) (number_and q.1)))
    (and-again ebx (number_text ecx ++ 32 ∷ number_text edx) is.1)
    ∙ ap (option_and_then (λ r. option_map (λ d. item.Cpuid eax ebx r.0 d) (number_in r.1))) (and-again ecx (number_text edx) is.2)
    ∙ ap (option_map (λ d. item.Cpuid eax ebx ecx d)) (number-again edx is.3)

cpuid-found : (text : List ℕ) (i : Item) → cpuid_in text ≡ Some i → codes "cpuid " ++ text ≡ line_of i
unfolding cpuid_in
cpuid-found text i is =
    option_and_then_some _ (number_and text) i is (λ p at_eax more.
    option_and_then_some _ (number_and p.1) i more (λ q at_ebx more.
    option_and_then_some _ (number_and q.1) i more (λ r at_ecx more.
    found-map (λ d. item.Cpuid p.0 q.0 r.0 d) (number_in r.1) i (λ d at_edx same.
    ap (λ t. codes "cpuid " ++ t) (and-found text p.1 p.0 at_eax)
    ∙ ap (λ t. codes "cpuid " ++ number_text p.0 ++ 32 ∷ t) (and-found p.1 q.1 q.0 at_ebx)
    ∙ ap (λ t. codes "cpuid " ++ number_text p.0 ++ 32 ∷ (number_text q.0 ++ 32 ∷ t)) (and-found q.1 r.1 r.0 at_ecx)
    ∙ ap (λ t. codes "cpuid " ++ number_text p.0 ++ 32 ∷ (number_text q.0 ++ 32 ∷ (number_text r.0 ++ 32 ∷ t))) (number-found r.1 d at_edx)
    ∙ ap line_of same) more)))

-- an item's line
item_in-change : (e : Effect) → item_in (line_of (item.Change e)) ≡ option_map item.Change (effect_in (effect_line e))
unfolding item_in behind
item_in-change (effect.Write lo bytes) = refl
item_in-change (effect.Map lo len m bytes) = refl
item_in-change (effect.Unmap lo len) = refl
item_in-change (effect.Desc index base) = refl

pub item-again : (i : Item) → IsItem i → item_in (line_of i) ≡ Some i
unfolding item_in behind IsArgument
item-again item.Header is = refl
item-again (item.Arg bytes) is = ap (option_map item.Arg) (bytes-again bytes is.1)
item-again (item.Ret eax) is = ap (option_map item.Ret) (number-again eax is)
item-again (item.Change e) is = item_in-change e ∙ ap (option_map item.Change) (effect-again e is)
item-again item.Gone is = refl
item-again (item.Cpuid eax ebx ecx edx) is = cpuid-again eax ebx ecx edx is

pub item-found : (line : List ℕ) (i : Item) → item_in line ≡ Some i → line ≡ line_of i
unfolding item_in
item-found line i is =
    found-if (bytes_eq line (codes "log 1")) _ _ i (λ eq same. (bytes_eq-Decides line (codes "log 1")).0 eq ∙ ap line_of (same_Some _ _ same)) (λ _.
    found-if (bytes_eq line (codes "gone")) _ _ i (λ eq same. (bytes_eq-Decides line (codes "gone")).0 eq ∙ ap line_of (same_Some _ _ same)) (λ _.
    found-map_or _ (behind (codes "arg ") line) _ i
    (λ text at found. found-map item.Arg (bytes_in text) i (λ bytes at_bytes same.
    behind-takes (codes "arg ") line text at ∙ ap (λ t. codes "arg " ++ t) (bytes-found text bytes at_bytes) ∙ ap line_of same) found) (
    found-map_or _ (behind (codes "ret ") line) _ i
    (λ text at found. found-map item.Ret (number_in text) i (λ eax at_eax same.
    behind-takes (codes "ret ") line text at ∙ ap (λ t. codes "ret " ++ t) (number-found text eax at_eax) ∙ ap line_of same) found) (
    found-map_or cpuid_in (behind (codes "cpuid ") line) _ i
    (λ text at found. behind-takes (codes "cpuid ") line text at ∙ cpuid-found text i found) (
    found-map item.Change (effect_in line) i (λ e at_effect same. effect-found line e at_effect ∙ ap line_of same)))))) is
