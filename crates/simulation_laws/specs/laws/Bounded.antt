-- The cells of a file that can be loaded lie below 0xFFFFF000, and are bytes where the file is.
use Rattle.std.proofs.Common.{◌≡◌, ℕ, ◌+◌, ◌-◌, ◌<◌, ◌≤◌, Bool, true, false, ◌&&◌, List, [], ◌∷◌, length, Option, Some, None, is_some, if◌then◌else◌, nat_lt, nat_le, ◌==◌, refl, sym, ap, ◌∙◌, arith, filter_map, slice_index, subst, cond, drop, ◌^◌}
use Rattle.std.specs.List.{cons_option}
use Rattle.std.proofs.lemmas.Bool.{ltb-true, ltb-false, and_parts, cond-true, both_ways}
use Rattle.std.proofs.lemmas.List.{get_or-drop}
use Rattle.std.proofs.lemmas.Option.{none-some}
use Rattle.byteorder.specs.Numbers.{little_from-lt}
use Rattle.mv_base.specs.Bytes.{AreBytes, word_at}
use Rattle.mv_base.specs.Memory.{Cell, within, first_of}
use Rattle.elf32_read.specs.declared.fault.ImageFault.{ImageFault}
use Rattle.elf32_read.specs.declared.fault.ImageFault.TheVariants.{Interpreter, Dynamic, FileRange, MemorySmaller}
use Rattle.elf32_read.specs.declared.image.Phdr.{Phdr}
use Rattle.elf32_read.specs.declared.image.Segment.{Segment}
use Rattle.elf32_read.specs.Fields.{headers, is_load, maps, has_write, has_exec, segment_of, segments}
use Rattle.elf32_read.specs.Faults.{or_else, head_fault, segment_fault, header_fault, free_after, headers_fault, load_refusal}
use Rattle.elf32_read.specs.Load.{segment_cell, load_in, load}

pub passed : {A : Type 0} (t : Bool) (f : A) (rest : Option A) → cond t (Some f) rest ≡ None → (t ≡ false) × (rest ≡ None)
passed true f rest e = absurd (none-some f (sym e))
passed false f rest e = (refl, e)

pub neither : (o p : Option ImageFault) → or_else o p ≡ None → (o ≡ None) × (p ≡ None)
neither None p e = (refl, e)
neither (Some f) p e = absurd (none-some f (sym e))

pub word_at-lt : (b : List ℕ) (p : ℕ) → AreBytes b → word_at b p < 2 ^ 32
unfolding word_at
word_at-lt b p bytes = little_from-lt 0 4 (drop p b) (λ k. subst (λ n. n < 256) (sym (get_or-drop p b k 0)) (bytes (p + k)))

segment_end : (free i : ℕ) (h : Phdr) → segment_fault free i h ≡ None → h.vaddr + h.memsz ≤ 0xFFFFF000
unfolding segment_fault
segment_end free i h e = ltb-false 0xFFFFF000 (h.vaddr + h.memsz) (passed _ _ _ e).0

header_end : (len free i : ℕ) (h : Phdr) → maps h ≡ true → header_fault len free i h ≡ None → h.vaddr + h.memsz ≤ 0xFFFFF000
unfolding header_fault
header_end len free i h m e =
    let large = is_load h && nat_lt h.memsz h.filesz in
    let outside = is_load h && nat_lt 0 h.filesz && nat_lt len (h.offset + h.filesz) in
    let own : Option ImageFault = if maps h then segment_fault free i h else None in
    let p3 : Option ImageFault = if large then Some (MemorySmaller i) else own in
    let p2 : Option ImageFault = if outside then Some (FileRange i) else p3 in
    let p1 : Option ImageFault = if h.kind == 2 then Some (Dynamic i) else p2 in
    let rest = (passed large (MemorySmaller i) own (passed outside (FileRange i) p3 (passed (h.kind == 2) (Dynamic i) p2 (passed (h.kind == 3) (Interpreter i) p1 e).1).1).1).1 in
    segment_end free i h (sym (cond-true (maps h) (segment_fault free i h) None m) ∙ rest)

-- the end of a header's segment
abbrev EndsLow : Option Segment → Type 0
EndsLow None = Unit {0}
EndsLow (Some s) = s.range.lo + s.range.len ≤ 0xFFFFF000

segment_low : (len free i : ℕ) (h : Phdr) → header_fault len free i h ≡ None → EndsLow (segment_of h)
segment_low len free i h e = go (maps h) refl
  where
    go : (v : Bool) → maps h ≡ v → EndsLow (if v then Some (record { range = record { lo = h.vaddr; len = h.memsz }; offset = h.offset; filesz = h.filesz; write = has_write h; exec = has_exec h }) else None)
    go true m = header_end len free i h m e
    go false m = tt

cell_low : (b : List ℕ) (s : Segment) (a : ℕ) → s.range.lo + s.range.len ≤ 0xFFFFF000 → is_some (segment_cell b s a) ≡ true → a < 0xFFFFF000
unfolding segment_cell
cell_low b s a end h = go (within s.range.lo s.range.len a) refl h
  where
    go : (v : Bool) → within s.range.lo s.range.len a ≡ v → is_some {T = Cell} (if v then Some (record { byte = if nat_lt (a - s.range.lo) s.filesz then slice_index b (s.offset + (a - s.range.lo)) else 0; write = s.write; exec = s.exec }) else None) ≡ true → a < 0xFFFFF000
    go true e m = let p = and_parts (nat_le s.range.lo a) (nat_lt a (s.range.lo + s.range.len)) e in omega (arith, ltb-true a (s.range.lo + s.range.len) p.1)
    go false e m = absurd (both_ways false refl m)

cells_low : (b : List ℕ) (a len free i : ℕ) (hs : List Phdr) → headers_fault len free i hs ≡ None → is_some (load_in b (filter_map segment_of hs) a) ≡ true → a < 0xFFFFF000
unfolding headers_fault
cells_low b a len free i [] e h = absurd (both_ways false refl h)
cells_low b a len free i (p ∷ hs) e h =
    let q = neither (header_fault len free i p) (headers_fault len (free_after free p) (i + 1) hs) e in
    go (cells_low b a len (free_after free p) (i + 1) hs q.1) (segment_of p) (segment_low len free i p q.0) h
  where
    go : (is_some (load_in b (filter_map segment_of hs) a) ≡ true → a < 0xFFFFF000) → (s : Option Segment) → EndsLow s → is_some (load_in b (cons_option s (filter_map segment_of hs)) a) ≡ true → a < 0xFFFFF000
    go rec None l h = rec h
    go rec (Some s) l h = part rec s l (segment_cell b s a) refl h
      where
        part : (is_some (load_in b (filter_map segment_of hs) a) ≡ true → a < 0xFFFFF000) → (s : Segment) → s.range.lo + s.range.len ≤ 0xFFFFF000 → (c : Option Cell) → segment_cell b s a ≡ c → is_some (first_of c (load_in b (filter_map segment_of hs) a)) ≡ true → a < 0xFFFFF000
        part rec s l None e h = rec h
        part rec s l (Some c) e h = cell_low b s a l (ap is_some e)

pub load_low : (b : List ℕ) → load_refusal b ≡ None → (a : ℕ) → is_some (load b a) ≡ true → a < 0xFFFFF000
unfolding load_refusal load segments
load_low b e a h =
    let p = neither (headers_fault (length b) 0 0 (headers b)) _ (neither (head_fault b) _ e).1 in
    cells_low b a (length b) 0 0 (headers b) p.0 h

-- ---- bytes

abbrev HasByte : Option Cell → Type 0
HasByte None = Unit {0}
HasByte (Some c) = c.byte < 256

segment_byte : (b : List ℕ) (s : Segment) (a : ℕ) → AreBytes b → HasByte (segment_cell b s a)
unfolding segment_cell
segment_byte b s a bytes = go (within s.range.lo s.range.len a) (nat_lt (a - s.range.lo) s.filesz)
  where
    at : ℕ
    at = s.offset + (a - s.range.lo)

    go : (v w : Bool) → HasByte (if v then Some (record { byte = if w then slice_index b at else 0; write = s.write; exec = s.exec }) else None)
    go true true = bytes at
    go true false = omega arith
    go false w = tt

cells_bytes : (b : List ℕ) (a : ℕ) (ss : List Segment) → AreBytes b → HasByte (load_in b ss a)
cells_bytes b a [] bytes = tt
cells_bytes b a (s ∷ ss) bytes = go (cells_bytes b a ss bytes) (segment_cell b s a) (segment_byte b s a bytes)
  where
    go : HasByte (load_in b ss a) → (c : Option Cell) → HasByte c → HasByte (first_of c (load_in b ss a))
    go rest None h = rest
    go rest (Some c) h = h

pub load_bytes : (b : List ℕ) → AreBytes b → (a : ℕ) (c : Cell) → load b a ≡ Some c → c.byte < 256
unfolding load
load_bytes b bytes a c e = subst HasByte e (cells_bytes b a (segments b) bytes)
