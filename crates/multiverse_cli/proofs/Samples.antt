-- The image of a sample has no fault, and its addresses have room.
use Rattle.std.proofs.Common.{◌≡◌, ◌≢◌, ℕ, zero, suc, ◌+◌, ◌*◌, ◌/◌, ◌^◌, ◌<◌, ◌≤◌, ◌||◌, Bool, true, false, ltb, List, [], ◌∷◌, ◌++◌, length, drop, map, Option, Some, None, IsSome, Result, Ok, Err, IsErrAnd, refl, append-nil, append_assoc, sym, ap, ◌∙◌, subst, arith}
use Rattle.std.specs.Prelude.{nat_le, if◌then◌else◌}
use Rattle.std.specs.List.{filter_map, range_with_len}
use Rattle.std.specs.Option.{option_map}
use Rattle.std.proofs.lemmas.Bool.{le-ltb, lt-ltb}
use Rattle.std.proofs.lemmas.Bool.Decides.{nat_tests}
use Rattle.std.proofs.lemmas.List.{length-append}
use Rattle.byteorder.specs.Numbers.{little_number-reads_back}
use Rattle.mv_base.specs.Bytes.{word_at, half_at, word}
use Rattle.elf32_read.specs.declared.image.Phdr.{Phdr}
use Rattle.elf32_read.specs.declared.image.Segment.{Segment}
use Rattle.elf32_read.specs.Faults.{code_size, head_fault, headers_fault, header_fault, segment_fault, load_refusal, limit_fault, refusal}
use Rattle.elf32_read.specs.Fields.{header_at, header_count, header_offset, headers, segment_of, segments}
use Rattle.elf32_read.specs.RunCount.{bytes_len, length-runs_of, bytes_len-runs_of, header_count-admitted}
use Rattle.elf32_read.specs.Runs.{runs_of}
use Rattle.elf32_read.specs.Segments.{AreApart-runs_of}
use Rattle.map_table.specs.Paged.{AreRuns}
use Rattle.map_table.specs.laws.Counts.{size_bound}
use Rattle.superset.specs.declared.site.Site.{Site}
use Rattle.sequence_join.specs.laws.Once.{each_once}
use Rattle.sequence_join.specs.laws.Linked.{all_linked}
use Rattle.image_layout.specs.Fit.{is_apart, has_room, lowest, first_fit}
use Rattle.image_layout.specs.laws.LayFacts.{AreLaid, chains_by, size_is}
use Rattle.image_layout.specs.laws.Counters.{listed_most}
use Rattle.image_layout.specs.laws.SiteFacts.{sites_count}
use Rattle.counter_hooks.specs.declared.rules.Rule.TheVariants as rule
use Rattle.image_layout.specs.Rules.{Rules, alone}
use Rattle.mv_rewrite.specs.Sites.{sites}
use Rattle.mv_rewrite.specs.Layout.{base_of, chains, size}
use Rattle.mv_rewrite.specs.declared.rewriting.RewriteFault.{RewriteFault}
use Rattle.mv_rewrite.specs.declared.rewriting.RewriteFault.TheVariants.{Image, NoRoom, NoMemory}
use Rattle.mv_rewrite.specs.Rewriting.{IsRewritten}
use Rattle.multiverse_cli.specs.declared.failure.Objection.{Objection}
use Rattle.multiverse_cli.specs.declared.verdict.Delivery.{Delivery as OwnDelivery}
use Rattle.multiverse_cli.specs.Commands.{IsSampling}
use Rattle.multiverse_cli.specs.Failures.{not_rewritten}
use Rattle.multiverse_cli.specs.Sample.{image_of, code_after, next_number, before_sizes, after_sizes, sample}
use Rattle.multiverse_cli.specs.Verdicts.{IsVerdictOf}
use Rattle.multiverse_cli.proofs.Verdicts.{absent, fault-none}
use Rattle.multiverse_cli.proofs.Found.{no-refusal, sites-of-runs}

-- nothing is counted
abbrev nothing : Rules
nothing = alone rule.None

-- ---- the image of some code

-- its one header
abbrev header_of : ℕ → Phdr
header_of n = record { kind = 1; offset = 84; vaddr = 0x08048054; paddr = 0x08048054; filesz = n; memsz = n; flags = 5; align = 4096 }

abbrev segment_with : ℕ → Segment
segment_with n = record { range = record { lo = 0x08048054; len = n }; offset = 84; filesz = n; write = false; exec = true }

length-parts :
    (u v w x y : List ℕ) → length (u ++ v ++ w ++ x ++ y) ≡ length u + length v + length w + length x + length y
length-parts u v w x y =
    omega (
      arith,
      length-append u (v ++ w ++ x ++ y),
      length-append v (w ++ x ++ y),
      length-append w (x ++ y),
      length-append x y,
      length-append (u ++ v ++ w ++ x) y,
      length-append (u ++ v ++ w) x,
      length-append (u ++ v) w,
      length-append u v,
    )

length-image : (code : List ℕ) → length (image_of code) ≡ 84 + length code
unfolding image_of word
length-image code =
    let size = word (length code) in
    let before : length before_sizes ≡ 68 = refl in
    let after : length after_sizes ≡ 8 = refl in
    let four : length size ≡ 4 = refl in
    let whole : length (image_of code) ≡ length (before_sizes ++ size ++ size ++ after_sizes ++ code) = refl in
    omega (arith, whole, before, after, four, length-parts before_sizes size size after_sizes code)

module _ (code : List ℕ) (some : 0 < length code) (most : length code ≤ 1048576) where
  abbrev n : ℕ
  n = length code

  abbrev b : List ℕ
  b = image_of code

  first-size : word_at b 68 ≡ n
  unfolding image_of word word_at
  first-size = little_number-reads_back 4 n (drop 72 (image_of code)) (omega arith)

  second-size : word_at b 72 ≡ n
  unfolding image_of word word_at
  second-size = little_number-reads_back 4 n (drop 76 (image_of code)) (omega arith)

  header-is : header_at b 52 ≡ header_of n
  unfolding image_of word word_at header_at
  header-is = λ i. record {
    kind = 1;
    offset = 84;
    vaddr = 0x08048054;
    paddr = 0x08048054;
    filesz = first-size i;
    memsz = second-size i;
    flags = 5;
    align = 4096;
  }

  count-is : header_count b ≡ 1
  unfolding image_of word half_at
  count-is = refl

  place-is : header_offset b ≡ 52
  unfolding image_of word word_at
  place-is = refl

  headers-are : headers b ≡ header_of n ∷ []
  unfolding headers
  headers-are =
      ap (λ k. map (λ i. header_at b (header_offset b + 32 * i)) (range_with_len 0 k)) count-is
      ∙ ap (λ p. header_at b (p + 32 * 0) ∷ []) place-is
      ∙ ap (λ h. h ∷ []) header-is

  segments-are : segments b ≡ segment_with n ∷ []
  unfolding segments
  segments-are =
      let some_bytes : ltb 0 n ≡ true = lt-ltb 0 n some in
      let one : filter_map segment_of (header_of n ∷ []) ≡ segment_with n ∷ [] = rw some_bytes refl in
      ap (filter_map segment_of) headers-are ∙ one

  head-sound : head_fault b ≡ None
  unfolding image_of word word_at half_at head_fault
  head-sound =
      let long : ltb (length b) 52 ≡ false = le-ltb (length b) 52 (omega (arith, length-image code)) in
      let inside : ltb (length b) 84 ≡ false = le-ltb (length b) 84 (omega (arith, length-image code)) in
      rw (long, inside) refl

  header-sound : headers_fault (length b) 0 0 (header_of n ∷ []) ≡ None
  unfolding headers_fault header_fault segment_fault
  header-sound =
      let some_bytes : ltb 0 n ≡ true = lt-ltb 0 n some in
      let inside : ltb (length b) (84 + n) ≡ false = le-ltb (length b) (84 + n) (omega (arith, length-image code)) in
      let enough : ltb n n ≡ false = le-ltb n n (omega arith) in
      let low : ltb 0xFFFFF000 (0x08048054 + n) ≡ false = le-ltb 0xFFFFF000 (0x08048054 + n) (omega arith) in
      rw (some_bytes, inside, enough, low) refl

  load-sound : load_refusal b ≡ None
  unfolding load_refusal
  load-sound = rw (head-sound, headers-are, header-sound) refl

  code-size : code_size (segments b) ≡ n
  code-size = let one : code_size (segment_with n ∷ []) ≡ n = omega arith in ap code_size segments-are ∙ one

  within-limits : limit_fault b ≡ None
  unfolding limit_fault
  within-limits =
      let small : ltb 16777216 (code_size (segments b)) ≡ false = le-ltb 16777216 (code_size (segments b)) (omega (arith, code-size)) in
      let few : ltb 61 (header_count b) ≡ false = le-ltb 61 (header_count b) (omega (arith, count-is)) in
      rw (small, few) refl

  -- it has no fault
  pub faultless : refusal b ≡ None
  faultless = no-refusal b load-sound within-limits

  -- ---- room

  runs-are : AreRuns (runs_of b)
  runs-are = record {
    few = omega (arith, length-runs_of b, header_count-admitted b within-limits);
    apart = AreApart-runs_of b load-sound;
    small = omega (arith, bytes_len-runs_of b load-sound, code-size, most);
  }

  laid : AreLaid (runs_of b) (sites b) (chains b)
  laid = record {
    runs = runs-are;
    sites = sites-of-runs b load-sound;
    once = each_once (sites b);
    linked = all_linked (sites b) (λ k. false) 0 (sites b) refl;
  }

  size-most : size b nothing ≤ 0x80000000
  size-most =
      let whole = size_is nothing (runs_of b) (sites b) (chains b) laid in
      let pieces = chains_by nothing (runs_of b) (sites b) (chains b) laid in
      let few = listed_most nothing (sites b) in
      let count = sites_count (runs_of b) (sites b) laid.sites in
      let bytes : bytes_len (runs_of b) ≤ 1048576 = omega (arith, bytes_len-runs_of b load-sound, code-size, most) in
      let table = size_bound (runs_of b) (map (λ (s : Site). s.at) (sites b)) runs-are.few runs-are.small in
      omega (arith, whole, pieces, few, count, bytes, table, runs-are.few)

  apart : (to : ℕ) → is_apart 0x10000 to (segment_with n) ≡ true
  apart to = or-second (nat_le to 0x8048) _ (grind (arith, nat_tests))
    where
      or-second : (x y : Bool) → y ≡ true → (x || y) ≡ true
      or-second true y h = refl
      or-second false y h = h

  room : has_room (segment_with n ∷ []) (size b nothing) 0x10000 ≡ true
  unfolding has_room
  room =
      let low : nat_le (4096 * 0x10000 + size b nothing) 0xB0000000 ≡ true = grind (arith, nat_tests, size-most) in
      rw (low, apart (0x10000 + size b nothing / 4096)) refl

some-if : (test : Bool) (x : ℕ) (rest : Option ℕ) → (test ≡ false → IsSome rest) → IsSome (if test then Some x else rest)
some-if true x rest h = refl
some-if false x rest h = h refl

-- a number that passes is a reason for the lowest one
lowest-some : (test : ℕ → Bool) (from k q : ℕ) → from ≤ q → q < from + k → test q ≡ true → IsSome (lowest test from k)
unfolding lowest
lowest-some test from zero q low high passes = absurd (omega arith)
lowest-some test from (suc k) q low high passes =
    some-if (test from) from (lowest test (from + 1) k) (λ fails.
    let other : from ≢ q = λ e. let clash : true ≡ false = sym passes ∙ ap test (sym e) ∙ fails in cc in
    lowest-some test (from + 1) k q (omega (arith, low, other)) (omega arith) passes)

map-some : (f : ℕ → ℕ) (o : Option ℕ) → IsSome o → IsSome (option_map f o)
map-some f None h = h
map-some f (Some x) h = refl

-- its addresses have room
pub has-base : (code : List ℕ) → 0 < length code → length code ≤ 1048576 → IsSome (base_of (image_of code) nothing)
unfolding base_of first_fit
has-base code some most =
    let test = has_room (segments (image_of code)) (size (image_of code) nothing) in
    let passes : test 0x10000 ≡ true = ap (λ (ss : List Segment). has_room ss (size (image_of code) nothing) 0x10000) (segments-are code some most) ∙ room code some most in
    map-some (λ page. 4096 * page) (lowest test 0x100 0xAFF00) (lowest-some test 0x100 0xAFF00 0x10000 (omega arith) (omega arith) passes)

-- ---- the code of a sample

-- a byte more
pub code-more :
    (x m n next byte : ℕ) (to new all : List ℕ) → n ≡ m + 1 → next ≡ next_number x → new ≡ to ++ byte ∷ [] → byte ≡ next / 2 ^ 24
    → to ++ code_after x n ≡ all → new ++ code_after next m ≡ all
unfolding code_after
code-more x m n next byte to new all count is made value h =
    let top = next_number x / 2 ^ 24 in
    let e : n ≡ suc m = omega arith in
    let pushed : new ≡ to ++ top ∷ [] = made ∙ ap (λ b. to ++ b ∷ []) (value ∙ ap (λ y. y / 2 ^ 24) is) in
    (λ i. pushed i ++ code_after (is i) m)
    ∙ append_assoc to (top ∷ []) (code_after (next_number x) m)
    ∙ ap (λ k. to ++ code_after x k) (sym e)
    ∙ h

-- no byte is left
pub code-done : (x n : ℕ) (to all : List ℕ) → n ≡ 0 → to ++ code_after x n ≡ all → to ≡ all
unfolding code_after
code-done x n to all none h = sym (append-nil to) ∙ ap (λ k. to ++ code_after x k) (sym none) ∙ h

pub length-code : (k x : ℕ) → length (code_after x k) ≡ k
unfolding code_after
length-code zero x = refl
length-code (suc k) x = ap suc (length-code k (next_number x))

-- what was made part by part is the sample
pub made :
    (number size : ℕ) (start one two three four five low high : List ℕ) → start ≡ [] → one ≡ start ++ before_sizes
    → two ≡ one ++ low → low ≡ word size → three ≡ two ++ high → high ≡ word size → four ≡ three ++ after_sizes
    → five ≡ four ++ code_after number size → five ≡ sample number size
unfolding image_of word
made number size start one two three four five low high h0 h1 h2 hl h3 hh h4 h5 =
    let code = code_after number size in
    let e1 : one ≡ before_sizes = h1 ∙ ap (λ t. t ++ before_sizes) h0 in
    let e2 : two ≡ before_sizes ++ word size = h2 ∙ (λ i. e1 i ++ hl i) in
    let e3 : three ≡ (before_sizes ++ word size) ++ word size = h3 ∙ (λ i. e2 i ++ hh i) in
    let e4 : four ≡ ((before_sizes ++ word size) ++ word size) ++ after_sizes = h4 ∙ ap (λ t. t ++ after_sizes) e3 in
    let e5 : five ≡ (((before_sizes ++ word size) ++ word size) ++ after_sizes) ++ code = h5 ∙ ap (λ t. t ++ code) e4 in
    e5 ∙ ap (λ n. before_sizes ++ word n ++ word n ++ after_sizes ++ code) (sym (length-code size number))

-- ---- the verdict

module _ (number size : ℕ) (image : List ℕ) (is : image ≡ sample number size) where
  -- a sample fits into a file that is read
  pub fits : size ≤ 1048576 → length image ≤ 268435456
  fits most = omega (arith, most, ap length is, length-image (code_after number size), length-code size number)

  module _ (output : List ℕ) (some : 1 ≤ size) (most : size ≤ 1048576) where
    abbrev Verdict : Result OwnDelivery Objection → Type 0
    Verdict r = IsVerdictOf (λ _. ⊥) (IsSampling number size output) r

    -- a sample is not rewritten for want of memory alone
    unwritten : (e : RewriteFault) → IsRewritten (sample number size) nothing (Err e) → Verdict (Err (not_rewritten e))
    unwritten (Image f) h =
        let len = length-code size number in
        absurd (fault-none _ f (faultless (code_after number size) (omega (arith, some, len)) (omega (arith, most, len))) h)
    unwritten (NoRoom n) h =
        let len = length-code size number in
        absurd (absent _ h.full (has-base (code_after number size) (omega (arith, some, len)) (omega (arith, most, len))))
    unwritten NoMemory h = tt

    pub not-sampled : (e : RewriteFault) (r : Result OwnDelivery Objection) → IsRewritten image nothing (Err e) → IsErrAnd r (λ o. o ≡ not_rewritten e) → Verdict r
    not-sampled e (Ok d) h passed = absurd passed
    not-sampled e (Err o) h passed =
        let P : Objection → Type 0 = λ x. Verdict (Err x) in
        let Q : List ℕ → Type 0 = λ i. IsRewritten i nothing (Err e) in
        subst P (sym passed) (unwritten e (subst Q is h))
