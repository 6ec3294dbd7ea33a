-- The memory of an output: the input's cells, no longer executable, beside those of the block.
use Rattle.std.proofs.Common.{◌≡◌, ℕ, ◌+◌, ◌-◌, ◌/◌, ◌<◌, ◌≤◌, ◌⊎◌, Bool, true, false, cond, leb, ltb, ◌&&◌, List, [], ◌∷◌, ◌++◌, length, map, Option, Some, None, refl, sym, ap, ◌∙◌, subst, inl, inr, arith}
use Rattle.std.specs.Prelude.{slice_index}
use Rattle.std.specs.List.{filter_map, cons_option}
use Rattle.std.proofs.lemmas.Bool.{cases_Bool, leb-true, ltb-true, ltb-false, le-leb, lt-ltb, le-ltb, lt-leb, leb-false, and_parts, and_from, and_left, and_right, and_cases}
use Rattle.mv_base.specs.Memory.{Cell, Memory, within, first_of, cell_is}
use Rattle.elf32_read.specs.declared.image.Phdr.{Phdr}
use Rattle.elf32_read.specs.declared.image.Segment.{Segment}
use Rattle.elf32_read.specs.Fields.{is_load, maps, has_exec, has_write, segment_of, segments, headers}
use Rattle.elf32_read.specs.Faults.{headers_fault, free_after}
use Rattle.elf32_read.specs.Load.{segment_cell, load_in, load}
use Rattle.elf32_write.specs.Format.{up}
use Rattle.elf32_write.specs.File.{kept_header, with_added}
use Rattle.elf32_write.specs.Within.{within_parts}
use Rattle.simulation_laws.specs.Relocated.{idle_cell, without_exec}
use Rattle.elf32_write.specs.Parts.{Stands}
use Rattle.image_layout.specs.laws.Fine.{IsFine, is_kept, kept_load, moved_offset}
use Rattle.image_layout.specs.laws.NewHeaders.{Block, IsBlock, block_size, code_of_block, table_of_block, private_of_block, block_headers, AreApart, fine_parts}

-- ---- ranges

pub within_not : (lo len a : ℕ) → (a < lo) ⊎ (lo + len ≤ a) → within lo len a ≡ false
within_not lo len a (inl lt) = and_left (leb lo a) (ltb a (lo + len)) (lt-leb lo a lt)
within_not lo len a (inr le) = and_right (leb lo a) (ltb a (lo + len)) (le-ltb a (lo + len) le)

pub within_is : (lo len a : ℕ) → lo ≤ a → a < lo + len → within lo len a ≡ true
within_is lo len a le lt = and_from (leb lo a) (ltb a (lo + len)) (le-leb lo a le) (lt-ltb a (lo + len) lt)

pub not_within : (lo len a : ℕ) → within lo len a ≡ false → (a < lo) ⊎ (lo + len ≤ a)
not_within lo len a e =
    elim (and_cases (leb lo a) (ltb a (lo + len)) e) [
      | inl t ↦ inl (leb-false lo a t)
      | inr t ↦ inr (ltb-false a (lo + len) t)
    ]

-- ---- the cells of headers

-- the cell that a segment of a header would have at an address
abbrev pub inner_cell : List ℕ → Phdr → ℕ → Cell
inner_cell x h a = record { byte = cond (ltb (a - h.vaddr) h.filesz) (slice_index x (h.offset + (a - h.vaddr))) 0; write = has_write h; exec = has_exec h }

-- the cell of a header at an address
unfoldable pub header_cell : List ℕ → Phdr → Memory
header_cell x h a = cond (is_load h && within h.vaddr h.memsz a) (Some (inner_cell x h a)) None

abbrev pub cells_of : List ℕ → List Phdr → Memory
cells_of x [] a = None
cells_of x (h ∷ hs) a = first_of (header_cell x h a) (cells_of x hs a)

abbrev pub as_segment : Phdr → Segment
as_segment h = record { range = record { lo = h.vaddr; len = h.memsz }; offset = h.offset; filesz = h.filesz; write = has_write h; exec = has_exec h }

within-empty : (lo len a : ℕ) → len ≤ 0 → within lo len a ≡ false
within-empty lo len a none =
    elim (cases_Bool (leb lo a)) [
      | inl le ↦ and_right (leb lo a) (ltb a (lo + len)) (le-ltb a (lo + len) (omega (arith, leb-true lo a le, none)))
      | inr gt ↦ and_left (leb lo a) (ltb a (lo + len)) gt
    ]

load_one : (x : List ℕ) (h : Phdr) (ss : List Segment) (a : ℕ) → load_in x (cons_option (segment_of h) ss) a ≡ first_of (header_cell x h a) (load_in x ss a)
unfolding header_cell segment_cell
load_one x h ss a =
    let here : Bool → Bool → Type 0 = λ m w. load_in x (cons_option (cond m (Some (as_segment h)) None) ss) a ≡ first_of (cond w (Some (inner_cell x h a)) None) (load_in x ss a) in
    elim (cases_Bool (maps h)) [
      | inl m ↦
          let l : is_load h ≡ true = (and_parts (is_load h) (ltb 0 h.memsz) m).0 in
          let w : (is_load h && within h.vaddr h.memsz a) ≡ within h.vaddr h.memsz a = ap (λ t. t && within h.vaddr h.memsz a) l in
          subst (λ t. here t (is_load h && within h.vaddr h.memsz a)) (sym m) (subst (here true) (sym w) refl)
      | inr m ↦
          let w : (is_load h && within h.vaddr h.memsz a) ≡ false =
          elim (and_cases (is_load h) (ltb 0 h.memsz) m) [
            | inl t ↦ and_left (is_load h) (within h.vaddr h.memsz a) t
            | inr t ↦ and_right (is_load h) (within h.vaddr h.memsz a) (within-empty h.vaddr h.memsz a (ltb-false 0 h.memsz t))
          ] in
          subst (λ t. here t (is_load h && within h.vaddr h.memsz a)) (sym m) (subst (here false) (sym w) refl)
    ]

load_all : (x : List ℕ) (hs : List Phdr) (a : ℕ) → load_in x (filter_map segment_of hs) a ≡ cells_of x hs a
load_all x [] a = refl
load_all x (h ∷ hs) a = load_one x h (filter_map segment_of hs) a ∙ ap (first_of (header_cell x h a)) (load_all x hs a)

pub loads : (x : List ℕ) (hs : List Phdr) → headers x ≡ hs → (a : ℕ) → load x a ≡ cells_of x hs a
unfolding load segments
loads x hs are a = ap (λ l. load_in x (filter_map segment_of l) a) are ∙ load_all x hs a

pub cell_inside : (x : List ℕ) (h : Phdr) (a : ℕ) → is_load h ≡ true → within h.vaddr h.memsz a ≡ true → header_cell x h a ≡ Some (inner_cell x h a)
unfolding header_cell
cell_inside x h a l w = ap (λ t. cond t (Some (inner_cell x h a)) None) (and_from (is_load h) (within h.vaddr h.memsz a) l w)

pub cell_outside : (x : List ℕ) (h : Phdr) (a : ℕ) → within h.vaddr h.memsz a ≡ false → header_cell x h a ≡ None
unfolding header_cell
cell_outside x h a w = ap (λ t. cond t (Some (inner_cell x h a)) None) (and_right (is_load h) (within h.vaddr h.memsz a) w)

pub cell_unloaded : (x : List ℕ) (h : Phdr) (a : ℕ) → is_load h ≡ false → header_cell x h a ≡ None
unfolding header_cell
cell_unloaded x h a l = ap (λ t. cond t (Some (inner_cell x h a)) None) (and_left (is_load h) (within h.vaddr h.memsz a) l)

pub first-assoc : (c d e : Option Cell) → first_of (first_of c d) e ≡ first_of c (first_of d e)
first-assoc None d e = refl
first-assoc (Some c) d e = refl

pub cells-append : (x : List ℕ) (gs hs : List Phdr) (a : ℕ) → cells_of x (gs ++ hs) a ≡ first_of (cells_of x gs a) (cells_of x hs a)
cells-append x [] hs a = refl
cells-append x (g ∷ gs) hs a = ap (first_of (header_cell x g a)) (cells-append x gs hs a) ∙ sym (first-assoc (header_cell x g a) (cells_of x gs a) (cells_of x hs a))

-- ---- the input's cells

without-first : (c d : Option Cell) → without_exec (first_of c d) ≡ first_of (without_exec c) (without_exec d)
without-first None d = refl
without-first (Some c) d = refl

-- a header's cell in the output is its cell in the input, no longer executable
kept_cell : (b x : List ℕ) (h : Phdr) (a free : ℕ) → Stands x 0x1000 b → length b ≤ 268435456 → IsFine (length b) free h → header_cell x (kept_header h) a ≡ without_exec (header_cell b h a)
kept_cell b x h a free stands small fine =
    let k = is_kept h in
    elim (cases_Bool (is_load h)) [
      | inr l ↦ cell_unloaded x (kept_header h) a (kept_load h ∙ l) ∙ sym (ap without_exec (cell_unloaded b h a l))
      | inl l ↦
          let same : within (kept_header h).vaddr (kept_header h).memsz a ≡ within h.vaddr h.memsz a = ap (λ n. within n (kept_header h).memsz a) k.vaddr ∙ ap (λ n. within h.vaddr n a) k.memsz in
          elim (cases_Bool (within h.vaddr h.memsz a)) [
            | inr w ↦ cell_outside x (kept_header h) a (same ∙ w) ∙ sym (ap without_exec (cell_outside b h a w))
            | inl w ↦
                let d = a - h.vaddr in
                let tests : ltb (a - (kept_header h).vaddr) (kept_header h).filesz ≡ ltb d h.filesz = ap (λ n. ltb (a - n) (kept_header h).filesz) k.vaddr ∙ ap (λ n. ltb d n) k.filesz in
                let byte : cond (ltb (a - (kept_header h).vaddr) (kept_header h).filesz) (slice_index x ((kept_header h).offset + (a - (kept_header h).vaddr))) 0 ≡ cond (ltb d h.filesz) (slice_index b (h.offset + d)) 0 =
                elim (cases_Bool (ltb d h.filesz)) [
                  | inl t ↦
                      let lt = ltb-true d h.filesz t in
                      let inside = (fine.loaded l).inside (omega (arith, lt)) in
                      let place : (kept_header h).offset + (a - (kept_header h).vaddr) ≡ 0x1000 + (h.offset + d) = omega (arith, k.offset, k.vaddr, moved_offset h.offset h.filesz (omega (arith, inside, small))) in
                      ap (λ u. cond u (slice_index x ((kept_header h).offset + (a - (kept_header h).vaddr))) 0) (tests ∙ t)
                      ∙ (ap (slice_index x) place ∙ (stands.byte (h.offset + d) (omega (arith, inside, lt)) ∙ sym (ap (λ u. cond u (slice_index b (h.offset + d)) 0) t)))
                  | inr t ↦
                      ap (λ u. cond u (slice_index x ((kept_header h).offset + (a - (kept_header h).vaddr))) 0) (tests ∙ t) ∙ sym (ap (λ u. cond u (slice_index b (h.offset + d)) 0) t)
                ] in
                let w' = k.write l in
                let e' = k.idle l in
                let cells : inner_cell x (kept_header h) a ≡ idle_cell (inner_cell b h a) = λ i. record { byte = byte i; write = w' i; exec = e' i } in
                cell_inside x (kept_header h) a (kept_load h ∙ l) (same ∙ w) ∙ (ap (λ (c : Cell). Some c) cells ∙ sym (ap without_exec (cell_inside b h a l w)))
          ]
    ]

pub kept_cells : (b x : List ℕ) (free i : ℕ) (hs : List Phdr) (a : ℕ) → Stands x 0x1000 b → length b ≤ 268435456 → headers_fault (length b) free i hs ≡ None → cells_of x (map kept_header hs) a ≡ without_exec (cells_of b hs a)
kept_cells b x free i [] a stands small e = refl
kept_cells b x free i (h ∷ hs) a stands small e =
    let q = fine_parts (length b) free i h hs e in
    ap (λ c. first_of c (cells_of x (map kept_header hs) a)) (kept_cell b x h a free stands small q.0)
    ∙ (ap (first_of (without_exec (header_cell b h a))) (kept_cells b x (free_after free h) (i + 1) hs a stands small q.1)
    ∙ sym (without-first (header_cell b h a) (cells_of b hs a)))

-- ---- the block's cells

-- an address of the block, and one outside it
pub record InBlock (k : Block) (a : ℕ) : Type 0 where
  pub from : k.base ≤ a
  pub below : a < k.base + block_size k

abbrev pub OutOfBlock : Block → ℕ → Type 0
OutOfBlock k a = (a < k.base) ⊎ (k.base + block_size k ≤ a)

block_out : (x : List ℕ) (k : Block) (a : ℕ) → OutOfBlock k a → cells_of x (block_headers k) a ≡ None
block_out x k a out =
    let c : header_cell x (code_of_block k) a ≡ None = cell_outside x (code_of_block k) a (within_not k.base k.code a (elim out [ inl lt ↦ inl lt | inr le ↦ inr (omega (arith, le)) ])) in
    let t : header_cell x (table_of_block k) a ≡ None = cell_outside x (table_of_block k) a (within_not (k.base + up k.code) k.table a (elim out [ inl lt ↦ inl (omega (arith, lt)) | inr le ↦ inr (omega (arith, le)) ])) in
    let p : header_cell x (private_of_block k) a ≡ None = cell_outside x (private_of_block k) a (within_not (k.base + up k.code + up k.table) k.private a (elim out [ inl lt ↦ inl (omega (arith, lt)) | inr le ↦ inr (omega (arith, le)) ])) in
    ap (λ u. first_of u (first_of (header_cell x (table_of_block k) a) (first_of (header_cell x (private_of_block k) a) None))) c
    ∙ (ap (λ u. first_of u (first_of (header_cell x (private_of_block k) a) None)) t ∙ ap (λ u. first_of u None) p)

-- a header apart from the block has no cell in it
kept_out : (x : List ℕ) (len : ℕ) (k : Block) (h : Phdr) (a : ℕ) → IsBlock len k → InBlock k a → (maps h ≡ true → (k.page + block_size k / 4096 ≤ h.vaddr / 4096) ⊎ ((h.vaddr + h.memsz + 4095) / 4096 ≤ k.page)) → header_cell x (kept_header h) a ≡ None
kept_out x len k h a is at apart =
    let q = is_kept h in
    let same : within (kept_header h).vaddr (kept_header h).memsz a ≡ within h.vaddr h.memsz a = ap (λ n. within n (kept_header h).memsz a) q.vaddr ∙ ap (λ n. within h.vaddr n a) q.memsz in
    elim (cases_Bool (maps h)) [
      | inl m ↦ cell_outside x (kept_header h) a (same ∙ within_not h.vaddr h.memsz a (elim (apart m) [
        | inl up ↦ inl (omega (arith, up, at.below, is.at))
        | inr down ↦ inr (omega (arith, down, at.from, is.at))
      ]))
      | inr m ↦ elim (and_cases (is_load h) (ltb 0 h.memsz) m) [
        | inl l ↦ cell_unloaded x (kept_header h) a (kept_load h ∙ l)
        | inr n ↦ cell_outside x (kept_header h) a (same ∙ within-empty h.vaddr h.memsz a (ltb-false 0 h.memsz n))
      ]
    ]

kept_all_out : (x : List ℕ) (len : ℕ) (k : Block) (hs : List Phdr) (a : ℕ) → IsBlock len k → InBlock k a → AreApart k hs → cells_of x (map kept_header hs) a ≡ None
kept_all_out x len k [] a is at apart = refl
kept_all_out x len k (h ∷ hs) a is at apart =
    ap (λ u. first_of u (cells_of x (map kept_header hs) a)) (kept_out x len k h a is at apart.0) ∙ kept_all_out x len k hs a is at apart.1

first_none : (c : Option Cell) → first_of c None ≡ c
first_none None = refl
first_none (Some c) = refl

-- outside the block the output has the kept headers' cells
pub output_out : (x : List ℕ) (k : Block) (hs : List Phdr) (a : ℕ) → OutOfBlock k a → cells_of x (with_added k.base (block_headers k) hs) a ≡ cells_of x (map kept_header hs) a
unfolding with_added
output_out x k [] a out = block_out x k a out
output_out x k (h ∷ hs) a out =
    let added = block_headers k in
    elim (cases_Bool (maps h && ltb k.base h.vaddr)) [
      | inl t ↦
          ap (λ u. cells_of x (cond u (added ++ map kept_header (h ∷ hs)) (kept_header h ∷ with_added k.base added hs)) a) t
          ∙ (cells-append x added (map kept_header (h ∷ hs)) a ∙ ap (λ u. first_of u (cells_of x (map kept_header (h ∷ hs)) a)) (block_out x k a out))
      | inr t ↦
          ap (λ u. cells_of x (cond u (added ++ map kept_header (h ∷ hs)) (kept_header h ∷ with_added k.base added hs)) a) t
          ∙ ap (first_of (header_cell x (kept_header h) a)) (output_out x k hs a out)
    ]

-- in the block it has the added headers' cells
pub output_in : (x : List ℕ) (len : ℕ) (k : Block) (hs : List Phdr) (a : ℕ) → IsBlock len k → InBlock k a → AreApart k hs → cells_of x (with_added k.base (block_headers k) hs) a ≡ cells_of x (block_headers k) a
unfolding with_added
output_in x len k [] a is at apart = refl
output_in x len k (h ∷ hs) a is at apart =
    let added = block_headers k in
    elim (cases_Bool (maps h && ltb k.base h.vaddr)) [
      | inl t ↦
          ap (λ u. cells_of x (cond u (added ++ map kept_header (h ∷ hs)) (kept_header h ∷ with_added k.base added hs)) a) t
          ∙ (cells-append x added (map kept_header (h ∷ hs)) a
          ∙ (ap (first_of (cells_of x added a)) (kept_all_out x len k (h ∷ hs) a is at apart) ∙ first_none (cells_of x added a)))
      | inr t ↦
          ap (λ u. cells_of x (cond u (added ++ map kept_header (h ∷ hs)) (kept_header h ∷ with_added k.base added hs)) a) t
          ∙ (ap (λ u. first_of u (cells_of x (with_added k.base added hs) a)) (kept_out x len k h a is at apart.0) ∙ output_in x len k hs a is at apart.1)
    ]

-- ---- regions of the block

abbrev pub three : Option Cell → Option Cell → Option Cell → Option Cell
three c t p = first_of c (first_of t (first_of p None))

-- the code: the bytes that stand at its place
pub code_cell : (x code : List ℕ) (k : Block) (n : ℕ) → length code ≡ k.code → Stands x k.place code → n < length code → cells_of x (block_headers k) (k.base + n) ≡ Some (record { byte = slice_index code n; write = false; exec = true })
code_cell x code k n len stands lt =
    let a = k.base + n in
    let w : within k.base k.code a ≡ true = within_is k.base k.code a (omega arith) (omega (arith, lt, len)) in
    let d : a - k.base ≡ n = omega arith in
    let file : ltb (a - k.base) k.code ≡ true = lt-ltb (a - k.base) k.code (omega (arith, d, lt, len)) in
    let byte : slice_index x (k.place + (a - k.base)) ≡ slice_index code n = ap (λ m. slice_index x (k.place + m)) d ∙ stands.byte n lt in
    let cell : inner_cell x (code_of_block k) a ≡ record { byte = slice_index code n; write = false; exec = true } =
    ap (λ u. record { byte = cond u (slice_index x (k.place + (a - k.base))) 0; write = false; exec = true }) file ∙ ap (λ m. record { byte = m; write = false; exec = true }) byte in
    ap (λ u. three u (header_cell x (table_of_block k) a) (header_cell x (private_of_block k) a)) (cell_inside x (code_of_block k) a refl w ∙ ap (λ (c : Cell). Some c) cell)

abbrev write_of : Option Cell → Bool
write_of c = cell_is (λ c. c.write) c

write_first : (c d : Option Cell) → write_of c ≡ false → write_of d ≡ false → write_of (first_of c d) ≡ false
write_first None d ec ed = ed
write_first (Some c) d ec ed = ec

-- only the private area may be written
pub block_fixed : (x : List ℕ) (k : Block) (a : ℕ) → within (k.base + up k.code + up k.table) k.private a ≡ false → write_of (cells_of x (block_headers k) a) ≡ false
block_fixed x k a w =
    let c : write_of (header_cell x (code_of_block k) a) ≡ false = elim (cases_Bool (within k.base k.code a)) [
      | inl v ↦ ap write_of (cell_inside x (code_of_block k) a refl v)
      | inr v ↦ ap write_of (cell_outside x (code_of_block k) a v)
    ] in
    let t : write_of (header_cell x (table_of_block k) a) ≡ false = elim (cases_Bool (within (k.base + up k.code) k.table a)) [
      | inl v ↦ ap write_of (cell_inside x (table_of_block k) a refl v)
      | inr v ↦ ap write_of (cell_outside x (table_of_block k) a v)
    ] in
    write_first (header_cell x (code_of_block k) a) (first_of (header_cell x (table_of_block k) a) (first_of (header_cell x (private_of_block k) a) None)) c
    (write_first (header_cell x (table_of_block k) a) (first_of (header_cell x (private_of_block k) a) None) t
    (ap (λ u. write_of (first_of u None)) (cell_outside x (private_of_block k) a w)))

-- the private area: zeros that may be written and not executed
pub private_cell : (x : List ℕ) (k : Block) (a : ℕ) → within (k.base + up k.code + up k.table) k.private a ≡ true → cells_of x (block_headers k) a ≡ Some (record { byte = 0; write = true; exec = false })
private_cell x k a w =
    let q = within_parts (k.base + up k.code + up k.table) k.private a w in
    let file : ltb (a - (k.base + up k.code + up k.table)) 0 ≡ false = le-ltb (a - (k.base + up k.code + up k.table)) 0 (omega arith) in
    let cell : inner_cell x (private_of_block k) a ≡ record { byte = 0; write = true; exec = false } =
    ap (λ u. record { byte = cond u (slice_index x (k.place + up k.code + up k.table + (a - (k.base + up k.code + up k.table)))) 0; write = true; exec = false }) file in
    ap (λ u. three u (header_cell x (table_of_block k) a) (header_cell x (private_of_block k) a)) (cell_outside x (code_of_block k) a (within_not k.base k.code a (inr (omega (arith, q.0)))))
    ∙ (ap (λ u. three None u (header_cell x (private_of_block k) a)) (cell_outside x (table_of_block k) a (within_not (k.base + up k.code) k.table a (inr (omega (arith, q.0)))))
    ∙ ap (λ u. three None None u) (cell_inside x (private_of_block k) a refl w ∙ ap (λ (c : Cell). Some c) cell))
