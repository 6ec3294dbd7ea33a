-- What stands where in the file of a plan.
use Rattle.std.proofs.Common.{◌≡◌, ℕ, ◌+◌, ◌*◌, ◌^◌, ◌<◌, ◌≤◌, false, eqb, ltb, List, [], ◌∷◌, ◌++◌, length, take, drop, map, None, refl, sym, ap, ◌∙◌, subst, arith}
use Rattle.std.specs.Prelude.{slice_index}
use Rattle.std.specs.List.{flat_map, range_with_len, AllByRecursion}
use Rattle.std.proofs.lemmas.Bool.{le-ltb, ne_eqb}
use Rattle.std.proofs.lemmas.List.{length-append, length-take, length-drop, get_or-take, ext_get_or, take-append-drop}
use Rattle.std.proofs.lemmas.List.FromFn.{fill_by_all}
use Rattle.byteorder.specs.Numbers.{little_number-reads_back}
use Rattle.mv_base.specs.Bytes.{word_at, half_at, half, words}
use Rattle.mv_base.specs.declared.range.RunPlace.{RunPlace}
use Rattle.elf32_read.specs.declared.image.Phdr.{Phdr}
use Rattle.elf32_read.specs.Fields.{header_at, headers, header_offset, header_count, entry_at, ident_rest}
use Rattle.elf32_read.specs.Faults.{head_fault}
use Rattle.elf32_write.specs.declared.plan.Plan.{Plan}
use Rattle.elf32_write.specs.Format.{filled, up}
use Rattle.elf32_write.specs.File.{padded, table_of, code_place, new_headers, header_words, elf_header, record_words, pair_words, place_words, head, file_of}
use Rattle.mv_base.specs.Words.{length-words, words-append}
use Rattle.elf32_write.specs.Parts.{Stands, stands_whole, stands_left, stands_right, stands_in, stands_first, stands_second, IsHeader, headers_in, stands_filled, length-filled}

-- the head of a plan's file has room for what stands there
pub record HasRoom (b : List ℕ) (p : Plan) : Type 0 where
  pub ident : 16 ≤ length b
  pub few_headers : length (new_headers b p) ≤ 64
  pub few_runs : length p.runs ≤ 64

-- what a plan has to keep so that its file can be read again
pub record IsWritable (b : List ℕ) (p : Plan) : Type 0 where
  pub ident : 16 ≤ length b
  pub entry : p.entry < 2 ^ 32
  pub headers_fit : AllByRecursion IsHeader (new_headers b p)
  pub some_header : 0 < length (new_headers b p)
  pub few_headers : length (new_headers b p) ≤ 64
  pub few_runs : length p.runs ≤ 64

-- ---- the ELF header

abbrev elf_list : (ℕ → ℕ) → ℕ → ℕ → ℕ → List ℕ
elf_list id flags entry count =
    (0x7F ∷ 0x45 ∷ 0x4C ∷ 0x46 ∷ 1 ∷ 1 ∷ 1 ∷ []) ++ map id (range_with_len 0 9) ++ half 2 ++ half 3 ++ words (1 ∷ entry ∷ 52 ∷ 0 ∷ flags ∷ []) ++ half 52 ++ half 32 ++ half count ++ half 0 ++ half 0 ++ half 0

elf_header_is : (b : List ℕ) (entry count : ℕ) → 16 ≤ length b → elf_header b entry count ≡ elf_list (slice_index (ident_rest b)) (word_at b 36) entry count
unfolding elf_header
elf_header_is b entry count long =
    let nine : length (ident_rest b) ≡ 9 = omega (arith, length-take 9 (drop 7 b), length-drop 7 b) in
    let e = fill_by_all (slice_index (ident_rest b)) (ident_rest b) 9 0 nine (λ k lt. refl) in
    ap (λ (id : List ℕ). (0x7F ∷ 0x45 ∷ 0x4C ∷ 0x46 ∷ 1 ∷ 1 ∷ 1 ∷ []) ++ id ++ half 2 ++ half 3 ++ words (1 ∷ entry ∷ 52 ∷ 0 ∷ word_at b 36 ∷ []) ++ half 52 ++ half 32 ++ half count ++ half 0 ++ half 0 ++ half 0) e

length-elf_list : (id : ℕ → ℕ) (flags entry count : ℕ) → length (elf_list id flags entry count) ≡ 52
unfolding half words
length-elf_list id flags entry count = refl

entry-elf_list : (id : ℕ → ℕ) (flags entry count : ℕ) (rest : List ℕ) → entry < 2 ^ 32 → word_at (elf_list id flags entry count ++ rest) 24 ≡ entry
unfolding half words word_at
entry-elf_list id flags entry count rest lt =
    little_number-reads_back 4 entry (drop 28 (elf_list id flags entry count ++ rest)) lt

count-elf_list : (id : ℕ → ℕ) (flags entry count : ℕ) (rest : List ℕ) → count < 2 ^ 16 → half_at (elf_list id flags entry count ++ rest) 44 ≡ count
unfolding half words half_at
count-elf_list id flags entry count rest lt =
    little_number-reads_back 2 count (drop 46 (elf_list id flags entry count ++ rest)) lt

-- a file that begins with such an ELF header, and has room for the program headers, has no fault of the head
record Begins (x : List ℕ) (entry count : ℕ) : Type 0 where
  entry_is : entry_at x ≡ entry
  offset_is : header_offset x ≡ 52
  count_is : header_count x ≡ count
  no_fault : head_fault x ≡ None

begins : (id : ℕ → ℕ) (flags entry count : ℕ) (rest : List ℕ) → entry < 2 ^ 32 → 0 < count → count ≤ 64 → 52 + 32 * count ≤ length (elf_list id flags entry count ++ rest)
    → Begins (elf_list id flags entry count ++ rest) entry count
unfolding half words word_at half_at head_fault
begins id flags entry count rest fits some few long =
    let x = elf_list id flags entry count ++ rest in
    let e = entry-elf_list id flags entry count rest fits in
    let c = count-elf_list id flags entry count rest (omega arith) in
    let offset : header_offset x ≡ 52 = refl in
    let t0 : ltb (length x) 52 ≡ false = le-ltb (length x) 52 (omega (arith, long)) in
    let t7 : ltb 64 (header_count x) ≡ false = le-ltb 64 (header_count x) (omega (arith, c)) in
    let z : eqb (header_count x) 0 ≡ false = ne_eqb (header_count x) 0 (λ q. omega (arith, q, c)) in
    let t8 : ltb (length x) (52 + 32 * header_count x) ≡ false = le-ltb (length x) (52 + 32 * header_count x) (omega (arith, long, c)) in
    record { entry_is = e; offset_is = offset; count_is = c; no_fault = rw (t0, z, t7, t8) refl }

-- ---- the whole file

-- a list in which a part stands first begins with it
begins_with : (x part : List ℕ) (n : ℕ) → length part ≡ n → Stands x 0 part → x ≡ part ++ drop n x
begins_with x part n len s =
    let front : take n x ≡ part =
    ext_get_or 0 (take n x) part (omega (arith, length-take n x, s.room, len))
    (λ i lt. let below : i < n = omega (arith, lt, length-take n x) in
    get_or-take n x i 0 below ∙ (ap (slice_index x) (let e : i ≡ 0 + i = omega arith in e) ∙ s.byte i (omega (arith, below, len)))) in
    sym (take-append-drop n x) ∙ ap (λ (l : List ℕ). l ++ drop n x) front

pub up-le : (n : ℕ) → n ≤ up n
up-le n = omega arith

length-padded : (xs : List ℕ) → length (padded xs) ≡ up (length xs)
length-padded xs = length-filled (up (length xs)) xs (up-le (length xs))

length-words_of_headers : (hs : List Phdr) → length (words (flat_map header_words hs)) ≡ 32 * length hs
unfolding words
length-words_of_headers [] = refl
length-words_of_headers (h ∷ hs) =
    omega (arith, length-words_of_headers hs, length-words (header_words h), ap (λ (l : List ℕ). length l) (words-append (header_words h) (flat_map header_words hs)), length-append (words (header_words h)) (words (flat_map header_words hs)))

length-place_words : (rs : List RunPlace) → length (flat_map place_words rs) ≡ 3 * length rs
length-place_words [] = refl
length-place_words (r ∷ rs) = omega (arith, length-place_words rs, length-append (place_words r) (flat_map place_words rs))

length-pair_words : (qs : List (ℕ × ℕ)) → length (flat_map pair_words qs) ≡ 2 * length qs
length-pair_words [] = refl
length-pair_words (q ∷ qs) = omega (arith, length-pair_words qs, length-append (pair_words q) (flat_map pair_words qs))

-- eight bytes of the list for each counter
pub table_length : (p : Plan) → length (table_of p) ≡ length p.table + 8 * length p.counted
table_length p =
    omega (arith, length-append p.table (words (flat_map pair_words p.counted)), length-words (flat_map pair_words p.counted), length-pair_words p.counted)

length-record : (input_len : ℕ) (p : Plan) → length (words (record_words input_len p)) ≡ 72 + 12 * length p.runs
unfolding record_words
length-record input_len p = omega (arith, length-words (record_words input_len p), length-place_words p.runs)

-- the parts of the file that a frame names
pub record IsStored (b : List ℕ) (p : Plan) (x : List ℕ) : Type 0 where
  pub record_stands : Stands x 0x900 (words (record_words (length b) p))
  pub input_stands : Stands x 0x1000 b
  pub code_stands : Stands x (code_place (length b)) p.code
  pub table_stands : Stands x (code_place (length b) + up (length p.code)) (table_of p)
  pub length_is : length x ≡ code_place (length b) + up (length p.code) + up (length (table_of p))

-- the parts of the file, and what its ELF header says
pub record IsWritten (b : List ℕ) (p : Plan) (x : List ℕ) : Type 0 where
  pub entry_is : entry_at x ≡ p.entry
  pub count_is : header_count x ≡ length (new_headers b p)
  pub headers_are : headers x ≡ new_headers b p
  pub no_fault : head_fault x ≡ None
  pub record_stands : Stands x 0x900 (words (record_words (length b) p))
  pub input_stands : Stands x 0x1000 b
  pub code_stands : Stands x (code_place (length b)) p.code
  pub table_stands : Stands x (code_place (length b) + up (length p.code)) (table_of p)
  pub length_is : length x ≡ code_place (length b) + up (length p.code) + up (length (table_of p))

module _ (b : List ℕ) (p : Plan) (ok : HasRoom b p) where
  unfoldable elf : List ℕ
  elf = elf_header b p.entry (length (new_headers b p))

  unfoldable front : List ℕ
  front = elf ++ words (flat_map header_words (new_headers b p))

  unfoldable record_bytes : List ℕ
  record_bytes = words (record_words (length b) p)

  length-elf : length elf ≡ 52
  unfolding elf
  length-elf =
      ap (λ (l : List ℕ). length l) (elf_header_is b p.entry (length (new_headers b p)) ok.ident) ∙ length-elf_list (slice_index (ident_rest b)) (word_at b 36) p.entry (length (new_headers b p))

  length-front : length front ≡ 52 + 32 * length (new_headers b p)
  unfolding front
  length-front = omega (arith, length-elf, length-words_of_headers (new_headers b p), length-append elf (words (flat_map header_words (new_headers b p))))

  head_is : head b p ≡ filled 0x1000 (filled 0x900 front ++ record_bytes)
  unfolding head front record_bytes elf
  head_is = refl

  length-inner : length (filled 0x900 front ++ record_bytes) ≡ 0x900 + (72 + 12 * length p.runs)
  unfolding record_bytes
  length-inner =
      omega (arith, length-filled 0x900 front (omega (arith, length-front, ok.few_headers)), length-record (length b) p, length-append (filled 0x900 front) record_bytes)

  length-head : length (head b p) ≡ 0x1000
  length-head =
      ap (λ (l : List ℕ). length l) head_is ∙ length-filled 0x1000 (filled 0x900 front ++ record_bytes) (omega (arith, length-inner, ok.few_runs))

  -- the parts of the head
  inner_stands : Stands (head b p) 0 (filled 0x900 front ++ record_bytes)
  inner_stands = subst (λ (l : List ℕ). Stands l 0 (filled 0x900 front ++ record_bytes)) (sym head_is) (stands_filled 0x1000 (filled 0x900 front ++ record_bytes))

  front_stands : Stands (head b p) 0 front
  front_stands = stands_in (head b p) (filled 0x900 front) front 0 0 (stands_first (head b p) (filled 0x900 front) record_bytes 0 inner_stands) (stands_filled 0x900 front)

  headers_stand : Stands (head b p) 52 (words (flat_map header_words (new_headers b p)))
  unfolding front
  headers_stand = stands_second (head b p) elf (words (flat_map header_words (new_headers b p))) 0 52 length-elf front_stands

  record_stands_there : Stands (head b p) 0x900 record_bytes
  record_stands_there =
      stands_second (head b p) (filled 0x900 front) record_bytes 0 0x900 (length-filled 0x900 front (omega (arith, length-front, ok.few_headers))) inner_stands

  -- the parts of the file
  unfoldable whole : List ℕ
  whole = file_of b p

  whole_is : whole ≡ head b p ++ padded b ++ padded p.code ++ padded (table_of p)
  unfolding whole file_of
  whole_is = refl

  length-two : length (head b p ++ padded b) ≡ code_place (length b)
  length-two = omega (arith, length-head, length-padded b, length-append (head b p) (padded b))

  length-three : length (head b p ++ padded b ++ padded p.code) ≡ code_place (length b) + up (length p.code)
  length-three = omega (arith, length-two, length-padded p.code, length-append (head b p ++ padded b) (padded p.code))

  length-whole : length whole ≡ code_place (length b) + up (length p.code) + up (length (table_of p))
  length-whole =
      ap (λ (l : List ℕ). length l) whole_is
      ∙ omega (arith, length-three, length-padded (table_of p), length-append (head b p ++ padded b ++ padded p.code) (padded (table_of p)))

  in_whole : (part : List ℕ) (place : ℕ) → Stands (head b p ++ padded b ++ padded p.code ++ padded (table_of p)) place part → Stands whole place part
  in_whole part place s = subst (λ (l : List ℕ). Stands l place part) (sym whole_is) s

  in_head : (part : List ℕ) (place : ℕ) → Stands (head b p) place part → Stands whole place part
  in_head part place s =
      in_whole part place (stands_left (head b p ++ padded b ++ padded p.code) (padded (table_of p)) part place
      (stands_left (head b p ++ padded b) (padded p.code) part place (stands_left (head b p) (padded b) part place s)))

  in_input : Stands whole 0x1000 b
  in_input =
      in_whole b 0x1000 (stands_left (head b p ++ padded b ++ padded p.code) (padded (table_of p)) b 0x1000
      (stands_left (head b p ++ padded b) (padded p.code) b 0x1000
      (let e : 0x1000 + 0 ≡ 0x1000 = omega arith in subst (λ n. Stands (head b p ++ padded b) n b) e (stands_right (head b p) (padded b) b 0x1000 0 length-head (stands_filled (up (length b)) b)))))

  in_code : Stands whole (code_place (length b)) p.code
  in_code =
      in_whole p.code (code_place (length b)) (stands_left (head b p ++ padded b ++ padded p.code) (padded (table_of p)) p.code (code_place (length b))
      (let e : code_place (length b) + 0 ≡ code_place (length b) = omega arith in
      subst (λ n. Stands (head b p ++ padded b ++ padded p.code) n p.code) e (stands_right (head b p ++ padded b) (padded p.code) p.code (code_place (length b)) 0 length-two (stands_filled (up (length p.code)) p.code))))

  in_table : Stands whole (code_place (length b) + up (length p.code)) (table_of p)
  in_table =
      in_whole (table_of p) (code_place (length b) + up (length p.code))
      (let e : code_place (length b) + up (length p.code) + 0 ≡ code_place (length b) + up (length p.code) = omega arith in
      subst (λ n. Stands (head b p ++ padded b ++ padded p.code ++ padded (table_of p)) n (table_of p)) e
      (stands_right (head b p ++ padded b ++ padded p.code) (padded (table_of p)) (table_of p) (code_place (length b) + up (length p.code)) 0 length-three (stands_filled (up (length (table_of p))) (table_of p))))

  pub stored : IsStored b p (file_of b p)
  unfolding whole record_bytes
  stored = record {
    record_stands = in_head record_bytes 0x900 record_stands_there;
    input_stands = in_input;
    code_stands = in_code;
    table_stands = in_table;
    length_is = length-whole;
  }

  -- the file begins with the ELF header
  elf_stands : Stands front 0 elf
  unfolding front
  elf_stands = stands_left elf (words (flat_map header_words (new_headers b p))) elf 0 (stands_whole elf)

  rest_of : (rest : List ℕ) × (whole ≡ elf ++ rest)
  rest_of = (drop 52 whole, begins_with whole elf 52 length-elf (in_head elf 0 (stands_in (head b p) front elf 0 0 front_stands elf_stands)))

  written_begins : IsWritable b p → Begins whole p.entry (length (new_headers b p))
  unfolding elf
  written_begins w =
      let r = rest_of in
      let e : whole ≡ elf_list (slice_index (ident_rest b)) (word_at b 36) p.entry (length (new_headers b p)) ++ r.0 =
      r.1 ∙ ap (λ (l : List ℕ). l ++ r.0) (elf_header_is b p.entry (length (new_headers b p)) ok.ident) in
      let long : 52 + 32 * length (new_headers b p) ≤ length (elf_list (slice_index (ident_rest b)) (word_at b 36) p.entry (length (new_headers b p)) ++ r.0) =
      omega (arith, length-whole, ok.few_headers, ap (λ (l : List ℕ). length l) e) in
      subst (λ (l : List ℕ). Begins l p.entry (length (new_headers b p))) (sym e)
      (begins (slice_index (ident_rest b)) (word_at b 36) p.entry (length (new_headers b p)) r.0 w.entry w.some_header w.few_headers long)

  headers_read : IsWritable b p → headers whole ≡ new_headers b p
  unfolding headers
  headers_read can =
      let w = written_begins can in
      let s = in_head (words (flat_map header_words (new_headers b p))) 52 headers_stand in
      let e : 52 ≡ 52 + 32 * 0 = refl in
      ap (λ n. map (λ i. header_at whole (n + 32 * i)) (range_with_len 0 (header_count whole))) w.offset_is
      ∙ (ap (λ n. map (λ i. header_at whole (52 + 32 * i)) (range_with_len 0 n)) w.count_is
      ∙ headers_in whole (new_headers b p) 52 0 (subst (λ n. Stands whole n (words (flat_map header_words (new_headers b p)))) e s) can.headers_fit)

  read_back : IsWritable b p → IsWritten b p (file_of b p)
  unfolding whole
  read_back can = record {
    entry_is = (written_begins can).entry_is;
    count_is = (written_begins can).count_is;
    headers_are = headers_read can;
    no_fault = (written_begins can).no_fault;
    record_stands = stored.record_stands;
    input_stands = stored.input_stands;
    code_stands = stored.code_stands;
    table_stands = stored.table_stands;
    length_is = stored.length_is;
  }

pub written : (b : List ℕ) (p : Plan) → IsWritable b p → IsWritten b p (file_of b p)
written b p can =
    read_back b p (record { ident = can.ident; few_headers = can.few_headers; few_runs = can.few_runs }) can
