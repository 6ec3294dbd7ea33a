-- What a plan's file loads as, for any plan that fits: without a fault, the code, the table and the private area in the
-- block, and around them the input without execute marks.
use Rattle.std.proofs.Common.{lit<, ◌≡◌, ℕ, zero, suc, ◌+◌, ◌-◌, ◌*◌, ◌/◌, ◌%◌, ◌^◌, ◌<◌, ◌≤◌, Bool, true, false, not, cond, leb, ltb, ◌&&◌, List, [], ◌∷◌, ◌++◌, length, map, Option, Some, None, refl, sym, ap, ◌∙◌, inl, inr, arith}
use Rattle.std.specs.Prelude.{slice_index}
use Rattle.std.specs.List.{list_any, list_all, filter_map, cons_option, range_with_len, AllByRecursion}
use Rattle.std.proofs.lemmas.List.{length-append, length-map}
use Rattle.std.proofs.lemmas.List.FromFn.{length-range_with_len}
use Rattle.std.proofs.lemmas.Bool.{true≢false, cases_Bool, cases_lt, leb-true, ltb-false, lt-ltb, and_parts, and_from, and_cases, or_cases, or_left, or_right, cond_both}
use Rattle.mv_base.specs.Bytes.{AreBytes}
use Rattle.mv_base.specs.Memory.{Cell, within, first_of, cell_is, is_executable, is_writable}
use Rattle.elf32_read.specs.declared.image.Phdr.{Phdr}
use Rattle.elf32_read.specs.declared.image.Segment.{Segment}
use Rattle.elf32_read.specs.Fields.{header_at, header_offset, header_count, headers, is_load, maps, has_write, has_exec, segment_of, segments}
use Rattle.elf32_read.specs.Faults.{or_else, fault_if, head_fault, headers_fault, load_refusal, free_after}
use Rattle.elf32_read.specs.declared.fault.ImageFault.TheVariants.{ShortHeader, NoLoad}
use Rattle.elf32_read.specs.Load.{load}
use Rattle.elf32_write.specs.declared.plan.Plan.{Plan}
use Rattle.elf32_write.specs.Format.{up, private_len}
use Rattle.elf32_write.specs.File.{head_len, code_place, table_of, table_lo, private_lo, added_len, kept_header, with_added, new_headers, file_of}
use Rattle.elf32_write.specs.Parts.{IsHeader, Stands}
use Rattle.elf32_write.specs.Within.{within_parts}
use Rattle.elf32_write.specs.Written.{IsWritable, IsWritten, written, up-le}
use Rattle.simulation_laws.specs.Relocated.{without_exec}
use Rattle.simulation_laws.specs.laws.Bounded.{word_at-lt}
use Rattle.image_layout.specs.Fit.{is_apart}
use Rattle.image_layout.specs.laws.Fine.{passed, neither, IsFine}
use Rattle.image_layout.specs.laws.NewHeaders.{Block, IsBlock, block_size, code_of_block, table_of_block, private_of_block, block_headers, AreApart, fine_parts, fine_output}
use Rattle.image_layout.specs.laws.NewCells.{within_is, inner_cell, three, header_cell, cells_of, loads, cell_inside, cell_outside, cell_unloaded, within_not, kept_cells, InBlock, OutOfBlock, output_out, output_in, code_cell, block_fixed, private_cell}

-- ---- headers

header_fits : (b : List ℕ) (p : ℕ) → AreBytes b → IsHeader (header_at b p)
unfolding header_at
header_fits b p bytes = record {
  kind = word_at-lt b p bytes;
  offset = word_at-lt b (p + 4) bytes;
  vaddr = word_at-lt b (p + 8) bytes;
  paddr = word_at-lt b (p + 12) bytes;
  filesz = word_at-lt b (p + 16) bytes;
  memsz = word_at-lt b (p + 20) bytes;
  flags = word_at-lt b (p + 24) bytes;
  align = word_at-lt b (p + 28) bytes;
}

mapped_fit : (b : List ℕ) (p j n : ℕ) → AreBytes b → AllByRecursion IsHeader (map (λ i. header_at b (p + 32 * i)) (range_with_len j n))
mapped_fit b p j zero bytes = tt
mapped_fit b p j (suc n) bytes = (header_fits b (p + 32 * j) bytes, mapped_fit b p (j + 1) n bytes)

headers_fit : (b : List ℕ) → AreBytes b → AllByRecursion IsHeader (headers b)
unfolding headers
headers_fit b bytes = mapped_fit b (header_offset b) 0 (header_count b) bytes

pub length-headers : (b : List ℕ) → length (headers b) ≡ header_count b
unfolding headers
length-headers b = omega (arith, length-map (range_with_len 0 (header_count b)) (λ i. header_at b (header_offset b + 32 * i)), length-range_with_len 0 (header_count b))

kept_fits : (h : Phdr) → IsHeader h → IsHeader (kept_header h)
kept_fits h is = by (is_load h)
  where
    by : (t : Bool) → IsHeader (cond t (record h { offset = (h.offset + head_len) % 2 ^ 32; flags = h.flags / 8 * 8 + 4 + h.flags / 2 % 2 * 2; align = 0x1000 }) (record h { offset = (h.offset + head_len) % 2 ^ 32 }))
    by true = record { kind = is.kind; offset = omega arith; vaddr = is.vaddr; paddr = is.paddr; filesz = is.filesz; memsz = is.memsz; flags = omega (arith, is.flags); align = lit< tt }
    by false = record { kind = is.kind; offset = omega arith; vaddr = is.vaddr; paddr = is.paddr; filesz = is.filesz; memsz = is.memsz; flags = is.flags; align = is.align }

kept_all_fit : (hs : List Phdr) → AllByRecursion IsHeader hs → AllByRecursion IsHeader (map kept_header hs)
kept_all_fit [] are = tt
kept_all_fit (h ∷ hs) are = (kept_fits h are.0, kept_all_fit hs are.1)

three_and : (g1 g2 g3 : Phdr) (hs : List Phdr) → IsHeader g1 → IsHeader g2 → IsHeader g3 → AllByRecursion IsHeader hs → AllByRecursion IsHeader ((g1 ∷ g2 ∷ g3 ∷ []) ++ hs)
three_and g1 g2 g3 hs e1 e2 e3 es = (e1, (e2, (e3, es)))

with_added_fit : (base : ℕ) (g1 g2 g3 : Phdr) (hs : List Phdr) → IsHeader g1 → IsHeader g2 → IsHeader g3 → AllByRecursion IsHeader hs → AllByRecursion IsHeader (with_added base (g1 ∷ g2 ∷ g3 ∷ []) hs)
unfolding with_added
with_added_fit base g1 g2 g3 [] e1 e2 e3 are = (e1, (e2, (e3, tt)))
with_added_fit base g1 g2 g3 (h ∷ hs) e1 e2 e3 are =
    cond_both (maps h && ltb base h.vaddr) ((g1 ∷ g2 ∷ g3 ∷ []) ++ map kept_header (h ∷ hs)) (kept_header h ∷ with_added base (g1 ∷ g2 ∷ g3 ∷ []) hs) (AllByRecursion IsHeader)
    (λ _. three_and g1 g2 g3 (map kept_header (h ∷ hs)) e1 e2 e3 (kept_all_fit (h ∷ hs) are))
    (λ _. (kept_fits h are.0, with_added_fit base g1 g2 g3 hs e1 e2 e3 are.1))

length-with_added : (base : ℕ) (added hs : List Phdr) → length (with_added base added hs) ≡ length added + length hs
unfolding with_added
length-with_added base added [] = omega arith
length-with_added base added (h ∷ hs) =
    cond_both (maps h && ltb base h.vaddr) (added ++ map kept_header (h ∷ hs)) (kept_header h ∷ with_added base added hs) (λ l. length l ≡ length added + length (h ∷ hs))
    (λ _. omega (arith, length-append added (map kept_header (h ∷ hs)), length-map hs kept_header))
    (λ _. omega (arith, length-with_added base added hs))

loads_some : (base : ℕ) (g : Phdr) (gs hs : List Phdr) → is_load g ≡ true → list_any is_load (with_added base (g ∷ gs) hs) ≡ true
unfolding with_added
loads_some base g gs [] l = or_left (is_load g) (list_any is_load gs) l
loads_some base g gs (h ∷ hs) l =
    cond_both (maps h && ltb base h.vaddr) ((g ∷ gs) ++ map kept_header (h ∷ hs)) (kept_header h ∷ with_added base (g ∷ gs) hs) (λ hs. list_any is_load hs ≡ true)
    (λ _. or_left (is_load g) (list_any is_load (gs ++ map kept_header (h ∷ hs))) l)
    (λ _. or_right (is_load (kept_header h)) (list_any is_load (with_added base (g ∷ gs) hs)) (loads_some base g gs hs l))

-- each header's segment is apart from the block
apart_headers : (k : Block) (hs : List Phdr) → list_all (is_apart k.page (k.page + block_size k / 4096)) (filter_map segment_of hs) ≡ true → AreApart k hs
apart_headers k [] e = tt
apart_headers k (h ∷ hs) e =
    let to = k.page + block_size k / 4096 in
    let seg : Segment = record { range = record { lo = h.vaddr; len = h.memsz }; offset = h.offset; filesz = h.filesz; write = has_write h; exec = has_exec h } in
    elim (cases_Bool (maps h)) [
      | inl m ↦
          let e' : list_all (is_apart k.page to) (seg ∷ filter_map segment_of hs) ≡ true = sym (ap (λ t. list_all (is_apart k.page to) (cons_option (cond t (Some seg) None) (filter_map segment_of hs))) m) ∙ e in
          let q = and_parts (is_apart k.page to seg) (list_all (is_apart k.page to) (filter_map segment_of hs)) e' in (
            λ _. elim (or_cases (leb to (h.vaddr / 4096)) (leb ((h.vaddr + h.memsz + 4095) / 4096) k.page) q.0) [
              | inl t ↦ inl (leb-true to (h.vaddr / 4096) t)
              | inr t ↦ inr (leb-true ((h.vaddr + h.memsz + 4095) / 4096) k.page t)
            ],
            apart_headers k hs q.1,
          )
      | inr m ↦
          let e' : list_all (is_apart k.page to) (filter_map segment_of hs) ≡ true = sym (ap (λ t. list_all (is_apart k.page to) (cons_option (cond t (Some seg) None) (filter_map segment_of hs))) m) ∙ e in
          (λ t. absurd (true≢false (sym t ∙ m)), apart_headers k hs e')
    ]

-- ---- the input's cells

-- the input has no cell in the block
input_out : (b : List ℕ) (len : ℕ) (k : Block) (hs : List Phdr) (a : ℕ) → IsBlock len k → InBlock k a → AreApart k hs → cells_of b hs a ≡ None
input_out b len k [] a is at apart = refl
input_out b len k (h ∷ hs) a is at apart =
    let none : header_cell b h a ≡ None = elim (cases_Bool (maps h)) [
      | inl m ↦ cell_outside b h a (within_not h.vaddr h.memsz a (elim (apart.0 m) [
        | inl up ↦ inl (omega (arith, up, at.below, is.at))
        | inr down ↦ inr (omega (arith, down, at.from, is.at))
      ]))
      | inr m ↦ elim (and_cases (is_load h) (ltb 0 h.memsz) m) [
        | inl l ↦ cell_unloaded b h a l
        | inr n ↦ cell_outside b h a (within_not h.vaddr h.memsz a (elim (cases_lt a h.vaddr) [ inl lt ↦ inl lt | inr ge ↦ inr (omega (arith, ge, ltb-false 0 h.memsz n)) ]))
      ]
    ] in
    ap (λ u. first_of u (cells_of b hs a)) none ∙ input_out b len k hs a is at apart.1

-- an executable cell of the input is not writable
abbrev write_of : Option Cell → Bool
write_of c = cell_is (λ c. c.write) c

abbrev exec_of : Option Cell → Bool
exec_of c = cell_is (λ c. c.exec) c

fixed_one : (b : List ℕ) (len free : ℕ) (h : Phdr) (a : ℕ) → IsFine len free h → exec_of (header_cell b h a) ≡ true → write_of (header_cell b h a) ≡ false
fixed_one b len free h a fine e =
    elim (cases_Bool (is_load h)) [
      | inr l ↦ ap write_of (cell_unloaded b h a l)
      | inl l ↦ elim (cases_Bool (within h.vaddr h.memsz a)) [
        | inr w ↦ ap write_of (cell_outside b h a w)
        | inl w ↦
            let q = within_parts h.vaddr h.memsz a w in
            let m : maps h ≡ true = and_from (is_load h) (ltb 0 h.memsz) l (lt-ltb 0 h.memsz (omega (arith, q.0, q.1))) in
            let x : has_exec h ≡ true = sym (ap exec_of (cell_inside b h a l w)) ∙ e in
            ap write_of (cell_inside b h a l w) ∙ elim (and_cases (has_write h) (has_exec h) (fine.mapped m).fixed) [
              | inl t ↦ t
              | inr t ↦ absurd (true≢false (sym x ∙ t))
            ]
      ]
    ]

fixed_first : (c d : Option Cell) → (exec_of c ≡ true → write_of c ≡ false) → (exec_of d ≡ true → write_of d ≡ false) → exec_of (first_of c d) ≡ true → write_of (first_of c d) ≡ false
fixed_first None d ec ed e = ed e
fixed_first (Some c) d ec ed e = ec e

fixed_all : (b : List ℕ) (len free i : ℕ) (hs : List Phdr) (a : ℕ) → headers_fault len free i hs ≡ None → exec_of (cells_of b hs a) ≡ true → write_of (cells_of b hs a) ≡ false
fixed_all b len free i [] a fine e = refl
fixed_all b len free i (h ∷ hs) a fine e =
    let q = fine_parts len free i h hs fine in
    fixed_first (header_cell b h a) (cells_of b hs a) (fixed_one b len free h a q.0) (fixed_all b len (free_after free h) (i + 1) hs a q.1) e

-- ---- the block's cells

-- the table: the bytes that stand at its place
table_cell : (x table : List ℕ) (k : Block) (n : ℕ) → length table ≡ k.table → Stands x (k.place + up k.code) table → n < length table
    → cells_of x (block_headers k) (k.base + up k.code + n) ≡ Some (record { byte = slice_index table n; write = false; exec = false })
table_cell x table k n len stands lt =
    let lo = k.base + up k.code in
    let a = k.base + up k.code + n in
    let place = k.place + up k.code in
    let w : within lo k.table a ≡ true = within_is lo k.table a (omega arith) (omega (arith, lt, len)) in
    let d : a - lo ≡ n = omega arith in
    let file : ltb (a - lo) k.table ≡ true = lt-ltb (a - lo) k.table (omega (arith, d, lt, len)) in
    let byte : slice_index x (place + (a - lo)) ≡ slice_index table n = ap (λ m. slice_index x (place + m)) d ∙ stands.byte n lt in
    let cell : inner_cell x (table_of_block k) a ≡ record { byte = slice_index table n; write = false; exec = false } =
    ap (λ u. record { byte = cond u (slice_index x (place + (a - lo))) 0; write = false; exec = false }) file ∙ ap (λ m. record { byte = m; write = false; exec = false }) byte in
    ap (λ u. three u (header_cell x (table_of_block k) a) (header_cell x (private_of_block k) a)) (cell_outside x (code_of_block k) a (within_not k.base k.code a (inr (omega arith))))
    ∙ ap (λ u. three None u (header_cell x (private_of_block k) a)) (cell_inside x (table_of_block k) a refl w ∙ ap (λ (c : Cell). Some c) cell)

-- the block has no cell but those of its three parts
no_cell : (x : List ℕ) (k : Block) (a : ℕ) → within k.base k.code a ≡ false → within (k.base + up k.code) k.table a ≡ false → within (k.base + up k.code + up k.table) k.private a ≡ false → cells_of x (block_headers k) a ≡ None
no_cell x k a c t p =
    ap (λ u. three u (header_cell x (table_of_block k) a) (header_cell x (private_of_block k) a)) (cell_outside x (code_of_block k) a c)
    ∙ (ap (λ u. three None u (header_cell x (private_of_block k) a)) (cell_outside x (table_of_block k) a t)
    ∙ ap (λ u. three None None u) (cell_outside x (private_of_block k) a p))

-- ---- a plan that fits

-- an image without a fault, and a plan whose block has room between its segments
pub record Fits (b : List ℕ) (p : Plan) : Type 0 where
  pub bytes : AreBytes b
  pub small : length b ≤ 268435456
  pub loads_so : load_refusal b ≡ None
  pub few_headers : header_count b ≤ 61
  pub page : ℕ
  pub at : p.base ≡ 4096 * page
  pub from : 0x100 ≤ page
  pub low : p.base + added_len p ≤ 0xB0000000
  pub apart : list_all (is_apart page (page + added_len p / 4096)) (segments b) ≡ true
  pub few_runs : length p.runs ≤ 64
  pub entry : p.entry < 2 ^ 32

module _ (b : List ℕ) (p : Plan) (is : Fits b p) where
  -- its block
  abbrev pub block : Block
  block = record { page = is.page; base = p.base; code = length p.code; table = length (table_of p); private = private_len (length p.counted); place = code_place (length b) }

  new_fit : AllByRecursion IsHeader (new_headers b p)
  new_fit =
      let l = is.low in
      with_added_fit p.base (code_of_block block) (table_of_block block) (private_of_block block) (headers b)
      (record { kind = lit< tt; offset = omega (arith, is.small); vaddr = omega (arith, l); paddr = omega (arith, l); filesz = omega (arith, l); memsz = omega (arith, l); flags = lit< tt; align = lit< tt })
      (record { kind = lit< tt; offset = omega (arith, is.small, l, is.at, is.from); vaddr = omega (arith, l); paddr = omega (arith, l); filesz = omega (arith, l); memsz = omega (arith, l); flags = lit< tt; align = lit< tt })
      (record { kind = lit< tt; offset = omega (arith, is.small, l, is.at, is.from); vaddr = omega (arith, l); paddr = omega (arith, l); filesz = lit< tt; memsz = omega (arith, l); flags = lit< tt; align = lit< tt })
      (headers_fit b is.bytes)

  length-new : length (new_headers b p) ≡ 3 + header_count b
  length-new = length-with_added p.base (block_headers block) (headers b) ∙ ap (λ n. 3 + n) (length-headers b)

  -- a file without a fault has 52 bytes
  head_none : head_fault b ≡ None
  unfolding load_refusal
  head_none = (neither (head_fault b) _ is.loads_so).0

  pub headers_none : headers_fault (length b) 0 0 (headers b) ≡ None
  unfolding load_refusal
  headers_none = (neither (headers_fault (length b) 0 0 (headers b)) _ (neither (head_fault b) _ is.loads_so).1).0

  long : 52 ≤ length b
  unfolding head_fault
  long = ltb-false (length b) 52 (passed (ltb (length b) 52) ShortHeader _ head_none).0

  pub writable : IsWritable b p
  writable = record {
    ident = omega (arith, long);
    entry = is.entry;
    headers_fit = new_fit;
    some_header = omega (arith, length-new);
    few_headers = omega (arith, length-new, is.few_headers);
    few_runs = is.few_runs;
  }

  pub wrote : IsWritten b p (file_of b p)
  wrote = written b p writable

  is_block : IsBlock (length (file_of b p)) block
  is_block = record {
    at = is.at;
    low = omega (arith, is.low);
    aligned = omega arith;
    inside = omega (arith, wrote.length_is);
    some = omega arith;
  }

  headers_apart : AreApart block (headers b)
  unfolding segments
  headers_apart = apart_headers block (headers b) is.apart

  -- the file has no fault
  pub admitted : load_refusal (file_of b p) ≡ None
  unfolding load_refusal
  admitted =
      let x = file_of b p in
      let hs = new_headers b p in
      let fine : headers_fault (length x) 0 0 hs ≡ None =
      fine_output (length b) (length x) 0 0 0 0 block (headers b) is.small (omega (arith, wrote.length_is)) is_block (omega arith) (omega arith) headers_apart headers_none in
      ap (λ o. or_else o (or_else (headers_fault (length x) 0 0 (headers x)) (fault_if (not (list_any is_load (headers x))) NoLoad))) wrote.no_fault
      ∙ (ap (λ l. or_else (headers_fault (length x) 0 0 l) (fault_if (not (list_any is_load l)) NoLoad)) wrote.headers_are
      ∙ (ap (λ o. or_else o (fault_if (not (list_any is_load hs)) NoLoad)) fine
      ∙ ap (λ t. fault_if (not t) NoLoad) (loads_some p.base (code_of_block block) (table_of_block block ∷ private_of_block block ∷ []) (headers b) refl)))

  -- ---- outside the block

  pub outside : (a : ℕ) → OutOfBlock block a → load (file_of b p) a ≡ without_exec (load b a)
  outside a out =
      loads (file_of b p) (new_headers b p) wrote.headers_are a
      ∙ (output_out (file_of b p) block (headers b) a out
      ∙ (kept_cells b (file_of b p) 0 0 (headers b) a wrote.input_stands is.small headers_none ∙ ap without_exec (sym (loads b (headers b) refl a))))

  pub free : (a : ℕ) → InBlock block a → load b a ≡ None
  free a at = loads b (headers b) refl a ∙ input_out b (length (file_of b p)) block (headers b) a is_block at headers_apart

  -- the input's code cannot be written
  pub unwritable : (a : ℕ) → is_executable (load b) a ≡ true → is_writable (load b) a ≡ false
  unwritable a e = ap write_of (loads b (headers b) refl a) ∙ fixed_all b (length b) 0 0 (headers b) a headers_none (sym (ap exec_of (loads b (headers b) refl a)) ∙ e)

  -- ---- in the block

  added : (a : ℕ) → InBlock block a → load (file_of b p) a ≡ cells_of (file_of b p) (block_headers block) a
  added a at =
      loads (file_of b p) (new_headers b p) wrote.headers_are a
      ∙ output_in (file_of b p) (length (file_of b p)) block (headers b) a is_block at headers_apart

  pub code_cells : (k : ℕ) → k < length p.code → load (file_of b p) (p.base + k) ≡ Some (record { byte = slice_index p.code k; write = false; exec = true })
  code_cells k lt =
      added (p.base + k) (record { from = omega arith; below = omega (arith, lt) })
      ∙ code_cell (file_of b p) p.code block k refl wrote.code_stands lt

  pub table_cells : (k : ℕ) → k < length (table_of p) → load (file_of b p) (table_lo p + k) ≡ Some (record { byte = slice_index (table_of p) k; write = false; exec = false })
  table_cells k lt =
      added (table_lo p + k) (record { from = omega arith; below = omega (arith, lt) })
      ∙ table_cell (file_of b p) (table_of p) block k refl wrote.table_stands lt

  pub private_in : (a : ℕ) → within (private_lo p) (private_len (length p.counted)) a ≡ true → InBlock block a
  private_in a e =
      let q = within_parts (private_lo p) (private_len (length p.counted)) a e in
      record { from = omega (arith, q.0); below = omega (arith, q.1, up-le (private_len (length p.counted))) }

  pub private_cells : (a : ℕ) → within (private_lo p) (private_len (length p.counted)) a ≡ true → load (file_of b p) a ≡ Some (record { byte = 0; write = true; exec = false })
  private_cells a e = added a (private_in a e) ∙ private_cell (file_of b p) block a e

  pub fixed : (a : ℕ) → InBlock block a → within (private_lo p) (private_len (length p.counted)) a ≡ false → is_writable (load (file_of b p)) a ≡ false
  fixed a at w = ap write_of (added a at) ∙ block_fixed (file_of b p) block a w

  -- and nothing else
  pub nothing : (a : ℕ) → InBlock block a → within p.base (length p.code) a ≡ false → within (table_lo p) (length (table_of p)) a ≡ false → within (private_lo p) (private_len (length p.counted)) a ≡ false → load (file_of b p) a ≡ None
  nothing a at c t w = added a at ∙ no_cell (file_of b p) block a c t w
