-- The image of some code has no fault.
use Rattle.std.specs.List.{filter_map, range_with_len}
use Rattle.std.proofs.Common.{◌≡◌, ℕ, ◌+◌, ◌*◌, ◌<◌, ◌≤◌, true, false, ltb, List, [], ◌∷◌, ◌++◌, length, drop, map, Option, None, refl, ap, ◌∙◌, arith}
use Rattle.std.proofs.lemmas.Bool.{le-ltb, lt-ltb}
use Rattle.std.proofs.lemmas.List.{length-append}
use Rattle.byteorder.specs.Numbers.{little_number-reads_back}
use Rattle.mv_base.specs.Bytes.{word_at, half_at, word}
use Rattle.elf32_read.specs.declared.fault.ImageFault.{ImageFault}
use Rattle.elf32_read.specs.declared.image.Phdr.{Phdr}
use Rattle.elf32_read.specs.declared.image.Segment.{Segment}
use Rattle.elf32_read.specs.Faults.{code_size, or_else, head_fault, headers_fault, header_fault, segment_fault, load_refusal, limit_fault, refusal}
use Rattle.elf32_read.specs.Fields.{header_at, header_count, header_offset, headers, segment_of, segments}
use Rattle.elf32_read.specs.CodeImage.{image_of, before_sizes, after_sizes}

-- its one header
abbrev header_of : ℕ → Phdr
header_of n = record { kind = 1; offset = 84; vaddr = 0x08048054; paddr = 0x08048054; filesz = n; memsz = n; flags = 5; align = 4096 }

abbrev pub segment_with : ℕ → Segment
segment_with n = record { range = record { lo = 0x08048054; len = n }; offset = 84; filesz = n; write = false; exec = true }

length-parts :
    (u v w x y : List ℕ) → length (u ++ v ++ w ++ x ++ y) ≡ length u + length v + length w + length x + length y
length-parts u v w x y =
    omega (
      arith,
      length-append u (v ++ w ++ x ++ y),
      length-append v (w ++ x ++ y),
      length-append w (x ++ y),
      length-append x y,
      length-append (u ++ v ++ w ++ x) y,
      length-append (u ++ v ++ w) x,
      length-append (u ++ v) w,
      length-append u v,
    )

pub length-image : (code : List ℕ) → length (image_of code) ≡ 84 + length code
unfolding image_of word
length-image code =
    let size = word (length code) in
    let before : length before_sizes ≡ 68 = refl in
    let after : length after_sizes ≡ 8 = refl in
    let four : length size ≡ 4 = refl in
    let whole : length (image_of code) ≡ length (before_sizes ++ size ++ size ++ after_sizes ++ code) = refl in
    omega (arith, whole, before, after, four, length-parts before_sizes size size after_sizes code)

module _ (code : List ℕ) (some : 0 < length code) (most : length code ≤ 16777216) where
  abbrev n : ℕ
  n = length code

  abbrev b : List ℕ
  b = image_of code

  first-size : word_at b 68 ≡ n
  unfolding image_of word word_at
  first-size = little_number-reads_back 4 n (drop 72 (image_of code)) (omega arith)

  second-size : word_at b 72 ≡ n
  unfolding image_of word word_at
  second-size = little_number-reads_back 4 n (drop 76 (image_of code)) (omega arith)

  header-is : header_at b 52 ≡ header_of n
  unfolding image_of word word_at header_at
  header-is = λ i. record {
    kind = 1;
    offset = 84;
    vaddr = 0x08048054;
    paddr = 0x08048054;
    filesz = first-size i;
    memsz = second-size i;
    flags = 5;
    align = 4096;
  }

  count-is : header_count b ≡ 1
  unfolding image_of word half_at
  count-is = refl

  place-is : header_offset b ≡ 52
  unfolding image_of word word_at
  place-is = refl

  headers-are : headers b ≡ header_of n ∷ []
  unfolding headers
  headers-are =
      ap (λ k. map (λ i. header_at b (header_offset b + 32 * i)) (range_with_len 0 k)) count-is
      ∙ ap (λ p. header_at b (p + 32 * 0) ∷ []) place-is
      ∙ ap (λ h. h ∷ []) header-is

  pub segments-are : segments b ≡ segment_with n ∷ []
  unfolding segments
  segments-are =
      let some_bytes : ltb 0 n ≡ true = lt-ltb 0 n some in
      let one : filter_map segment_of (header_of n ∷ []) ≡ segment_with n ∷ [] = rw some_bytes refl in
      ap (filter_map segment_of) headers-are ∙ one

  head-sound : head_fault b ≡ None
  unfolding image_of word word_at half_at head_fault
  head-sound =
      let long : ltb (length b) 52 ≡ false = le-ltb (length b) 52 (omega (arith, length-image code)) in
      let inside : ltb (length b) 84 ≡ false = le-ltb (length b) 84 (omega (arith, length-image code)) in
      rw (long, inside) refl

  header-sound : headers_fault (length b) 0 0 (header_of n ∷ []) ≡ None
  unfolding headers_fault header_fault segment_fault
  header-sound =
      let some_bytes : ltb 0 n ≡ true = lt-ltb 0 n some in
      let inside : ltb (length b) (84 + n) ≡ false = le-ltb (length b) (84 + n) (omega (arith, length-image code)) in
      let enough : ltb n n ≡ false = le-ltb n n (omega arith) in
      let low : ltb 0xFFFFF000 (0x08048054 + n) ≡ false = le-ltb 0xFFFFF000 (0x08048054 + n) (omega arith) in
      rw (some_bytes, inside, enough, low) refl

  pub load-sound : load_refusal b ≡ None
  unfolding load_refusal
  load-sound = rw (head-sound, headers-are, header-sound) refl

  pub code-size : code_size (segments b) ≡ n
  code-size = let one : code_size (segment_with n ∷ []) ≡ n = omega arith in ap code_size segments-are ∙ one

  pub within-limits : limit_fault b ≡ None
  unfolding limit_fault
  within-limits =
      let small : ltb 16777216 (code_size (segments b)) ≡ false = le-ltb 16777216 (code_size (segments b)) (omega (arith, code-size)) in
      let few : ltb 61 (header_count b) ≡ false = le-ltb 61 (header_count b) (omega (arith, count-is)) in
      rw (small, few) refl

  pub faultless : refusal b ≡ None
  unfolding refusal
  faultless = ap (λ (o : Option ImageFault). or_else o (limit_fault b)) load-sound ∙ within-limits

-- the same of a list that is the image
pub faultless-image : (code image : List ℕ) → image ≡ image_of code → 0 < length code → length code ≤ 16777216 → refusal image ≡ None
faultless-image code image is some most = ap refusal is ∙ faultless code some most

-- what was put together part by part is the image
pub put_together :
    (code start one two three four five low high : List ℕ) → start ≡ [] → one ≡ start ++ before_sizes → two ≡ one ++ low
    → low ≡ word (length code) → three ≡ two ++ high → high ≡ word (length code) → four ≡ three ++ after_sizes
    → five ≡ four ++ code → five ≡ image_of code
unfolding image_of word
put_together code start one two three four five low high h0 h1 h2 hl h3 hh h4 h5 =
    let size = word (length code) in
    let e1 : one ≡ before_sizes = h1 ∙ ap (λ t. t ++ before_sizes) h0 in
    let e2 : two ≡ before_sizes ++ size = h2 ∙ (λ i. e1 i ++ hl i) in
    let e3 : three ≡ (before_sizes ++ size) ++ size = h3 ∙ (λ i. e2 i ++ hh i) in
    let e4 : four ≡ ((before_sizes ++ size) ++ size) ++ after_sizes = h4 ∙ ap (λ t. t ++ after_sizes) e3 in
    h5 ∙ ap (λ t. t ++ code) e4
