-- Counts one by one, the eight bytes of a counter, and the lines of counts.
use Rattle.std.proofs.Common.{◌≡◌, ℕ, zero, suc, ◌+◌, ◌<◌, List, [], ◌∷◌, ◌++◌, length, get_or, take, Option, Some, None, refl, sym, ap, ◌∙◌, arith, add-one}
use Rattle.std.specs.Prelude.{option_to_list}
use Rattle.std.specs.List.{filter_map, flat_map, range_with_len, cons_option}
use Rattle.byteorder.specs.Endian.{little_number}
use Rattle.std.proofs.lemmas.List.{append_assoc, flat_map_more, take_more}
use Rattle.std.proofs.lemmas.List.Elements.{filter_map-append}
use Rattle.mv_base.specs.Bytes.{number}
use Rattle.mv_base.specs.Memory.{Memory, read_fault, bytes_at}
use Rattle.trace_run.specs.Counts.{unless, counter_at}
use Rattle.trace_run.specs.Texts.{line}

range_more : (n from : ℕ) → range_with_len from (suc n) ≡ range_with_len from n ++ (from + n) ∷ []
range_more zero from = let e : from ≡ from + 0 = omega arith in ap (λ a. a ∷ []) e
range_more (suc n) from =
    let e : from + 1 + n ≡ from + suc n = omega arith in
    ap (λ (t : List ℕ). from ∷ t) (range_more n (from + 1) ∙ ap (λ a. range_with_len (from + 1) n ++ a ∷ []) e)

alone : (o : Option (ℕ × ℕ × ℕ)) → cons_option o [] ≡ option_to_list o
alone None = refl
alone (Some c) = refl

-- the counts of one more site
pub counts_more : (f : ℕ → Option (ℕ × ℕ × ℕ)) (n : ℕ) (now new : List (ℕ × ℕ × ℕ)) → now ≡ filter_map f (range_with_len 0 n) → new ≡ now ++ option_to_list (f n) → new ≡ filter_map f (range_with_len 0 (n + 1))
counts_more f n now new h p =
    let first : 0 + n ≡ n = omega arith in
    let more : filter_map f (range_with_len 0 (n + 1)) ≡ filter_map f (range_with_len 0 n) ++ filter_map f (n ∷ []) =
    ap (λ k. filter_map f (range_with_len 0 k)) (add-one n) ∙ (ap (filter_map f) (range_more n 0 ∙ ap (λ a. range_with_len 0 n ++ a ∷ []) first) ∙ filter_map-append f (range_with_len 0 n) (n ∷ [])) in
    p
    ∙ (ap (λ (t : List (ℕ × ℕ × ℕ)). t ++ option_to_list (f n)) h
    ∙ (ap (λ (t : List (ℕ × ℕ × ℕ)). filter_map f (range_with_len 0 n) ++ t) (sym (alone (f n))) ∙ sym more))

-- a word, an address, a space, a number and a line feed
pub count_text : (old word address number a1 a2 a3 a4 new : List ℕ) → a1 ≡ old ++ word → a2 ≡ a1 ++ address → a3 ≡ a2 ++ 32 ∷ [] → a4 ≡ a3 ++ number → new ≡ a4 ++ 10 ∷ [] → new ≡ old ++ line (word ++ (address ++ (32 ∷ number)))
count_text old word address number a1 a2 a3 a4 new e1 e2 e3 e4 e5 =
    let space : List ℕ = 32 ∷ [] in
    let feed : List ℕ = 10 ∷ [] in
    let front = old ++ word in
    e5
    ∙ (ap (λ (t : List ℕ). t ++ feed) (e4 ∙ ap (λ (t : List ℕ). t ++ number) (e3 ∙ ap (λ (t : List ℕ). t ++ space) (e2 ∙ ap (λ (t : List ℕ). t ++ address) e1)))
    ∙ (ap (λ (t : List ℕ). (t ++ number) ++ feed) (append_assoc front address space)
    ∙ (ap (λ (t : List ℕ). t ++ feed)
    (append_assoc front (address ++ space) number
    ∙ (ap (λ (t : List ℕ). front ++ t) (append_assoc address space number) ∙ append_assoc old word (address ++ (space ++ number))))
    ∙ append_assoc old (word ++ (address ++ (space ++ number))) feed)))

-- one line more
pub lines_more : (f : ℕ × ℕ × ℕ → List ℕ) (old now new : List ℕ) (cs : List (ℕ × ℕ × ℕ)) (i : ℕ) (d : ℕ × ℕ × ℕ) → i < length cs → now ≡ old ++ flat_map f (take i cs) → new ≡ now ++ f (get_or cs i d) → new ≡ old ++ flat_map f (take (i + 1) cs)
lines_more f old now new cs i d lt h p =
    p
    ∙ (ap (λ (t : List ℕ). t ++ f (get_or cs i d)) h
    ∙ (flat_map_more f old (take i cs) (get_or cs i d) ∙ ap (λ (t : List (ℕ × ℕ × ℕ)). old ++ flat_map f t) (sym (take_more cs i d lt))))

-- eight bytes that were read are a counter's
pub counter_read : (m : Memory) (at : ℕ) (bytes : List ℕ) (value : ℕ) → length bytes ≡ 8 → read_fault m at (length bytes) ≡ None → bytes ≡ bytes_at m at (length bytes) → value ≡ little_number 8 bytes → Some value ≡ counter_at m at
unfolding number
counter_read m at bytes value len mapped same is =
    let clear : read_fault m at 8 ≡ None = ap (read_fault m at) (sym len) ∙ mapped in
    let there : bytes ≡ bytes_at m at 8 = same ∙ ap (bytes_at m at) len in
    let spelled : number bytes ≡ little_number 8 bytes = ap (λ n. little_number n bytes) len in
    ap Some (is ∙ (sym spelled ∙ ap number there)) ∙ sym (ap (λ (o : Option ℕ). unless o (number (bytes_at m at 8))) clear)
