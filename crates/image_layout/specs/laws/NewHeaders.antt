-- The headers of an output: they have no fault, and load the input's cells beside those of the block.
use Rattle.std.proofs.Common.{◌≡◌, ℕ, ◌+◌, ◌*◌, ◌/◌, ◌%◌, ◌<◌, ◌≤◌, ◌⊎◌, true, cond, ltb, ◌&&◌, List, [], ◌∷◌, ◌++◌, map, None, refl, sym, ap, ◌∙◌, subst, inl, inr, arith}
use Rattle.std.proofs.lemmas.Bool.{cases_Bool, ltb-true, ltb-false, and_parts, cond_both}
use Rattle.elf32_read.specs.declared.image.Phdr.{Phdr}
use Rattle.elf32_read.specs.Fields.{maps}
use Rattle.elf32_read.specs.Faults.{or_else, header_fault, headers_fault, free_after}
use Rattle.elf32_write.specs.Format.{up}
use Rattle.elf32_write.specs.File.{kept_header, added_header, with_added}
use Rattle.image_layout.specs.laws.Fine.{neither, IsFine, fine_is, fine_none, fine_more, is_kept, kept_maps, kept_fine}

-- ---- the block and its headers

-- a block at a page: lengths of code and table, and where in the file they stand
pub record Block : Type 0 where
  pub page : ℕ
  pub base : ℕ
  pub code : ℕ
  pub table : ℕ
  pub private : ℕ
  pub place : ℕ

abbrev pub block_size : Block → ℕ
block_size k = up k.code + up k.table + up k.private

abbrev pub code_of_block : Block → Phdr
code_of_block k = added_header k.place k.base k.code k.code 5

abbrev pub table_of_block : Block → Phdr
table_of_block k = added_header (k.place + up k.code) (k.base + up k.code) k.table k.table 4

abbrev pub private_of_block : Block → Phdr
private_of_block k = added_header (k.place + up k.code + up k.table) (k.base + up k.code + up k.table) 0 k.private 6

abbrev pub block_headers : Block → List Phdr
block_headers k = code_of_block k ∷ table_of_block k ∷ private_of_block k ∷ []

-- a block that begins at its page, ends at most at 0xB0000000, and stands in a file of a length
pub record IsBlock (len : ℕ) (k : Block) : Type 0 where
  pub at : k.base ≡ 4096 * k.page
  pub low : k.base + block_size k ≤ 0xB0000000
  pub aligned : k.place % 4096 ≡ 0
  pub inside : k.place + up k.code + up k.table ≤ len
  pub some : 0 < k.private

-- headers whose segments share no page with the block
abbrev pub AreApart : Block → List Phdr → Type 0
AreApart k [] = Unit {0}
AreApart k (h ∷ hs) = (maps h ≡ true → (k.page + block_size k / 4096 ≤ h.vaddr / 4096) ⊎ ((h.vaddr + h.memsz + 4095) / 4096 ≤ k.page)) × AreApart k hs

-- ---- no fault

fine_block : (len free : ℕ) (k : Block) → IsBlock len k → free ≤ k.page → (i : ℕ) (hs : List Phdr)
    → ((free' j : ℕ) → free' ≤ k.page + block_size k / 4096 → headers_fault len free' j hs ≡ None) → headers_fault len free i (block_headers k ++ hs) ≡ None
unfolding headers_fault
fine_block len free k is le i hs later =
    let c = code_of_block k in
    let t = table_of_block k in
    let p = private_of_block k in
    let fc : IsFine len free c = record {
      no_interpreter = refl;
      no_dynamic = refl;
      loaded = λ _. record { inside = λ _. omega (arith, is.inside); smaller = omega arith };
      mapped = λ _. record { low = omega (arith, is.low); fixed = refl; congruent = omega (arith, is.at, is.aligned); first_page = omega (arith, is.at, le) };
      permitted = λ _. refl;
    } in
    let page1 = k.page + up k.code / 4096 in
    let page2 = page1 + up k.table / 4096 in
    let free1 = free_after free c in
    let le1 : free1 ≤ page1 = cond_both (maps c) ((c.vaddr + c.memsz + 4095) / 4096) free (λ n. n ≤ page1) (λ _. omega (arith, is.at)) (λ _. omega (arith, le)) in
    let ft : IsFine len free1 t = record {
      no_interpreter = refl;
      no_dynamic = refl;
      loaded = λ _. record { inside = λ _. omega (arith, is.inside); smaller = omega arith };
      mapped = λ _. record { low = omega (arith, is.low); fixed = refl; congruent = omega (arith, is.at, is.aligned); first_page = omega (arith, is.at, le1) };
      permitted = λ _. refl;
    } in
    let free2 = free_after free1 t in
    let le2 : free2 ≤ page2 = cond_both (maps t) ((t.vaddr + t.memsz + 4095) / 4096) free1 (λ n. n ≤ page2) (λ _. omega (arith, is.at)) (λ _. omega (arith, le1)) in
    let fp : IsFine len free2 p = record {
      no_interpreter = refl;
      no_dynamic = refl;
      loaded = λ _. record { inside = λ some. absurd (omega (arith, some)); smaller = omega arith };
      mapped = λ _. record { low = omega (arith, is.low); fixed = refl; congruent = omega (arith, is.at, is.aligned); first_page = omega (arith, is.at, le2) };
      permitted = λ _. refl;
    } in
    let free3 = free_after free2 p in
    let le3 : free3 ≤ k.page + block_size k / 4096 = cond_both (maps p) ((p.vaddr + p.memsz + 4095) / 4096) free2 (λ n. n ≤ k.page + block_size k / 4096) (λ _. omega (arith, is.at)) (λ _. omega (arith, le2)) in
    ap (λ o. or_else o (headers_fault len free1 (i + 1) (t ∷ p ∷ hs))) (fine_none len free i c fc)
    ∙ (ap (λ o. or_else o (headers_fault len free2 (i + 1 + 1) (p ∷ hs))) (fine_none len free1 (i + 1) t ft)
    ∙ (ap (λ o. or_else o (headers_fault len free3 (i + 1 + 1 + 1) hs)) (fine_none len free2 (i + 1 + 1) p fp)
    ∙ later free3 (i + 1 + 1 + 1) le3))

-- what a header without a fault and the rest say
pub fine_parts : (len free i : ℕ) (h : Phdr) (hs : List Phdr) → headers_fault len free i (h ∷ hs) ≡ None → IsFine len free h × (headers_fault len (free_after free h) (i + 1) hs ≡ None)
unfolding headers_fault
fine_parts len free i h hs e =
    let n = neither (header_fault len free i h) (headers_fault len (free_after free h) (i + 1) hs) e in
    (fine_is len free i h n.0, n.1)

pub fine_join : (len free i : ℕ) (h : Phdr) (hs : List Phdr) → IsFine len free h → headers_fault len (free_after free h) (i + 1) hs ≡ None → headers_fault len free i (h ∷ hs) ≡ None
unfolding headers_fault
fine_join len free i h hs fine rest = ap (λ o. or_else o (headers_fault len (free_after free h) (i + 1) hs)) (fine_none len free i h fine) ∙ rest

kept_free : (free : ℕ) (h : Phdr) → free_after free (kept_header h) ≡ free_after free h
kept_free free h =
    let k = is_kept h in
    ap (λ t. cond t (((kept_header h).vaddr + (kept_header h).memsz + 4095) / 4096) free) (kept_maps h)
    ∙ ap (λ n. cond (maps h) n free) (omega (arith, k.vaddr, k.memsz))

-- the headers of the input are fine in the output, at other numbers and with lower free pages
kept_all : (len len' free free' i j : ℕ) (hs : List Phdr) → len ≤ 268435456 → len + 0x1000 ≤ len' → free' ≤ free → headers_fault len free i hs ≡ None → headers_fault len' free' j (map kept_header hs) ≡ None
unfolding headers_fault
kept_all len len' free free' i j [] small long le e = refl
kept_all len len' free free' i j (h ∷ hs) small long le e =
    let q = fine_parts len free i h hs e in
    let fine = fine_more len len free free' h (omega arith) (λ t. omega (arith, le, (q.0.mapped t).first_page)) q.0 in
    let next : free_after free' (kept_header h) ≤ free_after free h =
    subst (λ n. n ≤ free_after free h) (sym (kept_free free' h))
    (elim (cases_Bool (maps h)) [
      | inl t ↦ omega (arith, ap (λ u. cond u ((h.vaddr + h.memsz + 4095) / 4096) free') t, ap (λ u. cond u ((h.vaddr + h.memsz + 4095) / 4096) free) t)
      | inr t ↦ omega (arith, le, ap (λ u. cond u ((h.vaddr + h.memsz + 4095) / 4096) free') t, ap (λ u. cond u ((h.vaddr + h.memsz + 4095) / 4096) free) t)
    ]) in
    fine_join len' free' j (kept_header h) (map kept_header hs) (kept_fine len len' free' h small long fine)
    (kept_all len len' (free_after free h) (free_after free' (kept_header h)) (i + 1) (j + 1) hs small long next q.1)

-- the same, where headers from one on lie above the block
kept_above : (len len' free free' i j : ℕ) (h : Phdr) (hs : List Phdr) → len ≤ 268435456 → len + 0x1000 ≤ len' → maps h ≡ true → free' ≤ h.vaddr / 4096 → headers_fault len free i (h ∷ hs) ≡ None → headers_fault len' free' j (map kept_header (h ∷ hs)) ≡ None
kept_above len len' free free' i j h hs small long m le e =
    let q = fine_parts len free i h hs e in
    let fine = fine_more len len free free' h (omega arith) (λ t. le) q.0 in
    let next : free_after free' (kept_header h) ≤ free_after free h =
    subst (λ n. n ≤ free_after free h) (sym (kept_free free' h))
    (omega (arith, ap (λ u. cond u ((h.vaddr + h.memsz + 4095) / 4096) free') m, ap (λ u. cond u ((h.vaddr + h.memsz + 4095) / 4096) free) m)) in
    fine_join len' free' j (kept_header h) (map kept_header hs) (kept_fine len len' free' h small long fine)
    (kept_all len len' (free_after free h) (free_after free' (kept_header h)) (i + 1) (j + 1) hs small long next q.1)

pub fine_output : (len len' free free' i j : ℕ) (k : Block) (hs : List Phdr) → len ≤ 268435456 → len + 0x1000 ≤ len' → IsBlock len' k → free' ≤ free → free' ≤ k.page → AreApart k hs → headers_fault len free i hs ≡ None
    → headers_fault len' free' j (with_added k.base (block_headers k) hs) ≡ None
unfolding with_added headers_fault
fine_output len len' free free' i j k [] small long is le low apart e = fine_block len' free' k is low j [] (λ f n _. refl)
fine_output len len' free free' i j k (h ∷ hs) small long is le low apart e =
    let added = block_headers k in
    let here = with_added k.base added (h ∷ hs) in
    elim (cases_Bool (maps h && ltb k.base h.vaddr)) [
      | inl t ↦
          let q = and_parts (maps h) (ltb k.base h.vaddr) t in
          let above : k.base < h.vaddr = ltb-true k.base h.vaddr q.1 in
          let page : k.page + block_size k / 4096 ≤ h.vaddr / 4096 = elim (apart.0 q.0) [
            | inl up ↦ up
            | inr down ↦ absurd (omega (arith, down, above, is.at))
          ] in
          ap (λ u. headers_fault len' free' j (cond u (added ++ map kept_header (h ∷ hs)) (kept_header h ∷ with_added k.base added hs))) t
          ∙ fine_block len' free' k is low j (map kept_header (h ∷ hs))
          (λ f n up. kept_above len len' free f i n h hs small long q.0 (omega (arith, up, page)) e)
      | inr t ↦
          let q = fine_parts len free i h hs e in
          let fine = fine_more len len free free' h (omega arith) (λ m. omega (arith, le, (q.0.mapped m).first_page)) q.0 in
          let ends : maps h ≡ true → (h.vaddr + h.memsz + 4095) / 4096 ≤ k.page =
          λ m. let low : h.vaddr ≤ k.base = ltb-false k.base h.vaddr (sym (ap (λ u. u && ltb k.base h.vaddr) m) ∙ t) in
          elim (apart.0 m) [
            | inl up ↦ absurd (omega (arith, up, low, is.at, is.some))
            | inr down ↦ down
          ] in
          let next : free_after free' (kept_header h) ≤ free_after free h =
          subst (λ n. n ≤ free_after free h) (sym (kept_free free' h))
          (elim (cases_Bool (maps h)) [
            | inl m ↦ omega (arith, ap (λ u. cond u ((h.vaddr + h.memsz + 4095) / 4096) free') m, ap (λ u. cond u ((h.vaddr + h.memsz + 4095) / 4096) free) m)
            | inr m ↦ omega (arith, le, ap (λ u. cond u ((h.vaddr + h.memsz + 4095) / 4096) free') m, ap (λ u. cond u ((h.vaddr + h.memsz + 4095) / 4096) free) m)
          ]) in
          let next_low : free_after free' (kept_header h) ≤ k.page =
          subst (λ n. n ≤ k.page) (sym (kept_free free' h)) (cond_both (maps h) ((h.vaddr + h.memsz + 4095) / 4096) free' (λ n. n ≤ k.page) ends (λ _. low)) in
          ap (λ u. headers_fault len' free' j (cond u (added ++ map kept_header (h ∷ hs)) (kept_header h ∷ with_added k.base added hs))) t
          ∙ fine_join len' free' j (kept_header h) (with_added k.base added hs) (kept_fine len len' free' h small long fine)
          (fine_output len len' (free_after free h) (free_after free' (kept_header h)) (i + 1) (j + 1) k hs small long is next next_low apart.1 q.1)
    ]
