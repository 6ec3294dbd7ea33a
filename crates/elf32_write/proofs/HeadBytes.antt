-- The bytes of a head, part by part.
use Rattle.std.proofs.Common.{◌≡◌, ℕ, suc, ◌+◌, ◌-◌, ◌*◌, ◌/◌, ◌%◌, ◌^◌, ◌<◌, ◌≤◌, Bool, true, false, not, cond, bit_and, bit_or, List, [], ◌∷◌, ◌++◌, length, get_or, take, drop, map, refl, sym, ap, ◌∙◌, arith, append_assoc}
use Rattle.std.specs.Prelude.{replicate}
use Rattle.std.specs.List.{flat_map, position_or_len}
use Rattle.std.specs.Int.Bits.{or_add_and}
use Rattle.std.proofs.lemmas.List.{append-nil, length-append, length-map, length-take, length-replicate, length-drop, take_more, take_all}
use Rattle.std.proofs.lemmas.Bool.{cond_both}
use Rattle.std.proofs.lemmas.List.Concat.{flat_map-append}
use Rattle.std.proofs.lemmas.Nat.Bits.{and_high, and_pow}
use Rattle.byteorder.specs.Endian.{little_bytes}
use Rattle.mv_base.specs.Bytes.{word_at, words, half}
use Rattle.mv_base.specs.declared.range.RunPlace.{RunPlace}
use Rattle.elf32_read.specs.declared.image.Image.{Image}
use Rattle.elf32_read.specs.declared.image.Phdr.{Phdr}
use Rattle.elf32_read.specs.Fields.{headers, ident_rest}
use Rattle.elf32_write.specs.declared.plan.Plan.{Plan}
use Rattle.elf32_write.specs.File.{header_words, kept_header, with_added, table_of, pair_words, place_words, record_words, new_headers, added_headers, elf_header, head, head_len, record_place, padded, file_of}
use Rattle.elf32_write.specs.Format.{filled}
use Rattle.elf32_write.specs.Writing.{header_bytes, is_above, record_front, front, HasHead}
use Rattle.mv_base.specs.Words.{length-words, words-append}

-- the execute flag cleared and the read flag set
pub kept_flags : (f : ℕ) → f < 2 ^ 32 → bit_and (bit_or f 4) 4294967294 ≡ f / 8 * 8 + 4 + f / 2 % 2 * 2
kept_flags f fits =
    let both : bit_or f 4 + bit_and f 4 ≡ f + 4 = or_add_and f 4 in
    let third : bit_and f 4 ≡ f / 4 % 2 * 4 = and_pow f 2 in
    let cleared : bit_and (bit_or f 4) 4294967294 ≡ bit_or f 4 / 2 % 2 ^ 31 * 2 = and_high (bit_or f 4) 31 1 in
    omega arith

-- where headers are added
added_step : (t : Bool) (n : ℕ) (h : Phdr) (hs added rest : List Phdr) → rest ≡ map kept_header (take n hs) ++ added ++ map kept_header (drop n hs)
    → cond t (added ++ map kept_header (h ∷ hs)) (kept_header h ∷ rest)
    ≡ map kept_header (take (cond (not t) (1 + n) 0) (h ∷ hs)) ++ added ++ map kept_header (drop (cond (not t) (1 + n) 0) (h ∷ hs))
added_step true n h hs added rest e = refl
added_step false n h hs added rest e =
    let one : 1 + n ≡ suc n = omega arith in
    rw one (ap (λ (l : List Phdr). kept_header h ∷ l) e)

pub with_added_at : (base : ℕ) (added hs : List Phdr)
    → with_added base added hs ≡ map kept_header (take (position_or_len (is_above base) hs) hs) ++ added ++ map kept_header (drop (position_or_len (is_above base) hs) hs)
unfolding with_added
with_added_at base added [] = sym (append-nil added)
with_added_at base added (h ∷ hs) =
    added_step (is_above base h) (position_or_len (is_above base) hs) h hs added (with_added base added hs) (with_added_at base added hs)

-- ---- lists of which each element is spelled as words

unfoldable pub spelled : {X : Type 0} → (X → List ℕ) → List X → List ℕ
spelled f xs = words (flat_map f xs)

pub spelled-nil : {X : Type 0} (f : X → List ℕ) → spelled f [] ≡ []
unfolding spelled words
spelled-nil f = refl

pub spelled-append : {X : Type 0} (f : X → List ℕ) (xs ys : List X) → spelled f (xs ++ ys) ≡ spelled f xs ++ spelled f ys
unfolding spelled
spelled-append f xs ys = ap words (flat_map-append f xs ys) ∙ words-append (flat_map f xs) (flat_map f ys)

spelled_more : {X : Type 0} (f : X → List ℕ) (xs : List X) (x : X) → spelled f (xs ++ x ∷ []) ≡ spelled f xs ++ words (f x)
unfolding spelled
spelled_more f xs x = spelled-append f xs (x ∷ []) ∙ ap (λ (l : List ℕ). spelled f xs ++ words l) (append-nil (f x))

-- nothing is appended yet
pub none_yet : {X : Type 0} (f : X → List ℕ) (old : List ℕ) → old ≡ old ++ spelled f []
none_yet f old = sym (append-nil old) ∙ ap (λ (l : List ℕ). old ++ l) (sym (spelled-nil f))

-- one element more is appended
pub one_more : {X : Type 0} (f : X → List ℕ) (old now next : List ℕ) (xs : List X) (i : ℕ) (d : X) (ws : List ℕ) → i < length xs → now ≡ old ++ spelled f (take i xs)
    → ws ≡ f (get_or xs i d) → next ≡ now ++ words ws → next ≡ old ++ spelled f (take (i + 1) xs)
one_more f old now next xs i d ws lt before are after =
    let more : spelled f (take (i + 1) xs) ≡ spelled f (take i xs) ++ words (f (get_or xs i d)) =
    ap (spelled f) (take_more xs i d lt) ∙ spelled_more f (take i xs) (get_or xs i d) in
    after ∙ (ap (λ (l : List ℕ). l ++ words ws) before ∙ (append_assoc old (spelled f (take i xs)) (words ws)
    ∙ ap (λ (l : List ℕ). old ++ l) (ap (λ (l : List ℕ). spelled f (take i xs) ++ words l) are ∙ sym more)))

-- all elements are appended
pub all_done : {X : Type 0} (f : X → List ℕ) (old now : List ℕ) (xs : List X) (i : ℕ) → length xs ≤ i → now ≡ old ++ spelled f (take i xs) → now ≡ old ++ words (flat_map f xs)
unfolding spelled
all_done f old now xs i all is = is ∙ ap (λ l. old ++ spelled f l) (take_all i xs all)

flat_map_kept : (hs : List Phdr) → flat_map (λ h. header_words (kept_header h)) hs ≡ flat_map header_words (map kept_header hs)
flat_map_kept [] = refl
flat_map_kept (h ∷ hs) = ap (λ (l : List ℕ). header_words (kept_header h) ++ l) (flat_map_kept hs)

pub all_kept_done : (old now : List ℕ) (hs : List Phdr) (i : ℕ) → length hs ≤ i → now ≡ old ++ spelled (λ h. header_words (kept_header h)) (take i hs)
    → now ≡ old ++ words (flat_map header_words (map kept_header hs))
all_kept_done old now hs i all is = all_done (λ h. header_words (kept_header h)) old now hs i all is ∙ ap (λ (l : List ℕ). old ++ words l) (flat_map_kept hs)

-- the ELF header, part by part
pub elf_parts : (old ident : List ℕ) (flags entry count : ℕ) (t1 t2 t3 t4 t5 : List ℕ)
    → t1 ≡ old ++ (0x7F ∷ 0x45 ∷ 0x4C ∷ 0x46 ∷ 1 ∷ 1 ∷ 1 ∷ []) → t2 ≡ t1 ++ ident → t3 ≡ t2 ++ flat_map (little_bytes 2) (2 ∷ 3 ∷ [])
    → t4 ≡ t3 ++ words (1 ∷ entry ∷ 52 ∷ 0 ∷ flags ∷ []) → t5 ≡ t4 ++ flat_map (little_bytes 2) (52 ∷ 32 ∷ count ∷ 0 ∷ 0 ∷ 0 ∷ []) → t5 ≡ old ++ header_bytes ident flags entry count
unfolding half
elf_parts old ident flags entry count t1 t2 t3 t4 t5 e1 e2 e3 e4 e5 = simp (e5, e4, e3, e2, e1, append_assoc)

-- the program headers, part by part
pub header_parts : (base : ℕ) (added hs : List Phdr) (k : ℕ) (old t1 t2 t3 : List ℕ) → k ≡ position_or_len (is_above base) hs
    → t1 ≡ old ++ words (flat_map header_words (map kept_header (take k hs))) → t2 ≡ t1 ++ words (flat_map header_words added)
    → t3 ≡ t2 ++ words (flat_map header_words (map kept_header (take (length hs - k) (drop k hs)))) → t3 ≡ old ++ words (flat_map header_words (with_added base added hs))
unfolding spelled
header_parts base added hs k old t1 t2 t3 at e1 e2 e3 =
    let front = map kept_header (take k hs) in
    let back = map kept_header (drop k hs) in
    let all : with_added base added hs ≡ front ++ added ++ back =
    with_added_at base added hs ∙ ap (λ n. map kept_header (take n hs) ++ added ++ map kept_header (drop n hs)) (sym at) in
    let bytes : spelled header_words (with_added base added hs) ≡ spelled header_words front ++ spelled header_words added ++ spelled header_words back =
    ap (spelled header_words) all ∙ (spelled-append header_words (front ++ added) back ∙ ap (λ (l : List ℕ). l ++ spelled header_words back) (spelled-append header_words front added)) in
    let rest : take (length hs - k) (drop k hs) ≡ drop k hs = take_all (length hs - k) (drop k hs) (omega (arith, length-drop k hs)) in
    e3 ∙ (ap (λ (l : List Phdr). t2 ++ spelled header_words (map kept_header l)) rest ∙ (ap (λ (l : List ℕ). l ++ spelled header_words back) (e2 ∙ ap (λ (l : List ℕ). l ++ spelled header_words added) e1)
    ∙ (ap (λ (l : List ℕ). l ++ spelled header_words back) (append_assoc old (spelled header_words front) (spelled header_words added))
    ∙ (append_assoc old (spelled header_words front ++ spelled header_words added) (spelled header_words back) ∙ ap (λ (l : List ℕ). old ++ l) (sym bytes)))))

-- how long the parts are
-- the frame record, part by part
pub record_parts : (input_len : ℕ) (p : Plan) (old t1 t2 : List ℕ) → t1 ≡ old ++ words (record_front input_len p) → t2 ≡ t1 ++ words (flat_map place_words p.runs)
    → t2 ≡ old ++ words (record_words input_len p)
unfolding record_words
record_parts input_len p old t1 t2 e1 e2 =
    e2 ∙ (ap (λ (l : List ℕ). l ++ words (flat_map place_words p.runs)) e1
    ∙ (append_assoc old (words (record_front input_len p)) (words (flat_map place_words p.runs))
    ∙ ap (λ (l : List ℕ). old ++ l) (sym (words-append (record_front input_len p) (flat_map place_words p.runs)))))

length-with_added : (base : ℕ) (added hs : List Phdr) → length (with_added base added hs) ≡ length added + length hs
unfolding with_added
length-with_added base added [] = omega arith
length-with_added base added (h ∷ hs) =
    cond_both (is_above base h) (added ++ map kept_header (h ∷ hs)) (kept_header h ∷ with_added base added hs) (λ l. length l ≡ length added + length (h ∷ hs))
    (λ _. omega (arith, length-append added (map kept_header (h ∷ hs)), length-map hs kept_header))
    (λ _. omega (arith, length-with_added base added hs))

pub count_headers : (b : List ℕ) (p : Plan) (hs : List Phdr) → hs ≡ headers b → length (new_headers b p) ≡ length hs + 3
count_headers b p hs are = omega (arith, length-with_added p.base (added_headers (length b) p) (headers b), ap (λ (l : List Phdr). length l) are)

length-spelled : (hs : List Phdr) → length (words (flat_map header_words hs)) ≡ 32 * length hs
length-spelled [] = length-words []
length-spelled (h ∷ hs) =
    omega (arith, length-words (flat_map header_words (h ∷ hs)), length-words (flat_map header_words hs), length-spelled hs, length-append (header_words h) (flat_map header_words hs))

length-header_bytes : (ident : List ℕ) (flags entry count : ℕ) → length (header_bytes ident flags entry count) ≡ 43 + length ident
unfolding half words
length-header_bytes ident flags entry count = simp length-append omega arith

-- an ELF header that is spelled from an image is the one of the file
pub header_is : (b : List ℕ) (image : Image) (entry count : ℕ) → HasHead b image → header_bytes image.ident image.e_flags entry count ≡ elf_header b entry count
unfolding elf_header
header_is b image entry count has =
    ap (λ (id : List ℕ). header_bytes id image.e_flags entry count) has.ident ∙ ap (λ n. header_bytes (ident_rest b) n entry count) has.e_flags

length-elf_header : (b : List ℕ) (entry count : ℕ) → length (elf_header b entry count) ≡ 43 + length (ident_rest b)
unfolding elf_header
length-elf_header b entry count = length-header_bytes (ident_rest b) (word_at b 36) entry count

pub length-front : (b : List ℕ) (p : Plan) → length (headers b) ≤ 61 → length (front b p) ≤ 0x900
length-front b p few =
    let n = length (new_headers b p) in
    let elf : length (elf_header b p.entry n) ≡ 43 + length (ident_rest b) = length-elf_header b p.entry n in
    omega (arith, elf, count_headers b p (headers b) refl, length-take 9 (drop 7 b), length-spelled (new_headers b p), length-append (elf_header b p.entry n) (words (flat_map header_words (new_headers b p))))

length-places : (rs : List RunPlace) → length (flat_map place_words rs) ≡ 3 * length rs
length-places [] = refl
length-places (r ∷ rs) = omega (arith, length-places rs, length-append (place_words r) (flat_map place_words rs))

pub length_record : (input_len : ℕ) (p : Plan) → length (words (record_words input_len p)) ≡ 72 + 12 * length p.runs
unfolding record_words
length_record input_len p = omega (arith, length-words (record_words input_len p), length-places p.runs)

-- the head, part by part
pub head_parts : (b : List ℕ) (p : Plan) (m n : ℕ) (t1 t2 t3 t4 : List ℕ) → t1 ≡ front b p → m ≡ length t1 → t2 ≡ t1 ++ replicate (2304 - m) 0 → t3 ≡ t2 ++ words (record_words (length b) p)
    → n ≡ length t3 → t4 ≡ t3 ++ replicate (4096 - n) 0 → t4 ≡ head b p
unfolding head
head_parts b p m n t1 t2 t3 t4 e1 em e2 e3 en e4 =
    let inner : t3 ≡ filled record_place (front b p) ++ words (record_words (length b) p) =
    e3 ∙ ap (λ (l : List ℕ). l ++ words (record_words (length b) p)) (e2 ∙ (ap (λ k. t1 ++ replicate (2304 - k) 0) em ∙ ap (filled record_place) e1)) in
    e4 ∙ (ap (λ k. t3 ++ replicate (4096 - k) 0) en ∙ ap (filled head_len) inner)

pub front_fits : (b : List ℕ) (p : Plan) (image : Image) (m : ℕ) (t : List ℕ) → HasHead b image → length image.headers ≤ 61 → t ≡ front b p → m ≡ length t → m ≤ 2304
front_fits b p image m t has few e em =
    omega (arith, em, ap (λ (l : List ℕ). length l) e, length-front b p (omega (arith, few, ap (λ (l : List Phdr). length l) has.headers_are)))

pub record_fits : (input_len : ℕ) (p : Plan) (m n : ℕ) (t1 t2 t3 : List ℕ) → length p.runs ≤ 64 → m ≤ 2304 → m ≡ length t1 → t2 ≡ t1 ++ replicate (2304 - m) 0
    → t3 ≡ t2 ++ words (record_words input_len p) → n ≡ length t3 → n ≤ 4096
record_fits input_len p m n t1 t2 t3 few le em e2 e3 en =
    omega (
      arith,
      few,
      le,
      em,
      en,
      ap (λ (l : List ℕ). length l) e2,
      ap (λ (l : List ℕ). length l) e3,
      length_record input_len p,
      length-append t1 (replicate (2304 - m) 0),
      length-replicate {A = ℕ} (2304 - m) 0,
      length-append t2 (words (record_words input_len p)),
    )

-- the ELF header and the program headers, part by part
pub front_parts : (b : List ℕ) (p : Plan) (image : Image) (count : ℕ) (t0 t1 t2 : List ℕ) (added hs : List Phdr) → HasHead b image → count ≡ length image.headers + 3 → t0 ≡ []
    → t1 ≡ t0 ++ header_bytes image.ident image.e_flags p.entry count → added ≡ added_headers (length b) p → hs ≡ image.headers
    → t2 ≡ t1 ++ words (flat_map header_words (with_added p.base added hs)) → t2 ≡ front b p
front_parts b p image count t0 t1 t2 added hs has counts empty e1 ea eh e2 =
    let number : count ≡ length (new_headers b p) = omega (arith, counts, count_headers b p image.headers has.headers_are) in
    let elf : t1 ≡ elf_header b p.entry (length (new_headers b p)) =
    e1 ∙ (ap (λ (l : List ℕ). l ++ header_bytes image.ident image.e_flags p.entry count) empty ∙ (header_is b image p.entry count has ∙ ap (elf_header b p.entry) number)) in
    e2 ∙ (ap (λ (l : List ℕ). l ++ words (flat_map header_words (with_added p.base added hs))) elf
    ∙ ap (λ (l : List Phdr). elf_header b p.entry (length (new_headers b p)) ++ words (flat_map header_words l))
    (ap (λ (l : List Phdr). with_added p.base l hs) ea ∙ ap (with_added p.base (added_headers (length b) p)) (eh ∙ has.headers_are)))

-- the whole file, part by part
pub file_parts : (b : List ℕ) (p : Plan) (t1 t2 code t3 t4 : List ℕ) → t1 ≡ head b p → t2 ≡ t1 ++ padded b → code ≡ p.code → t3 ≡ t2 ++ padded code → t4 ≡ t3 ++ padded (table_of p)
    → t4 ≡ file_of b p
unfolding file_of
file_parts b p t1 t2 code t3 t4 e1 e2 ec e3 e4 =
    e4 ∙ ap (λ (l : List ℕ). l ++ padded (table_of p)) (e3 ∙ (ap (λ (l : List ℕ). t2 ++ padded l) ec ∙ ap (λ (l : List ℕ). l ++ padded p.code) (e2 ∙ ap (λ (l : List ℕ). l ++ padded b) e1)))
