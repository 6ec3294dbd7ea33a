-- A table with a list behind it reads as the table alone.
use Rattle.std.proofs.Common.{◌≡◌, ℕ, ◌+◌, ◌-◌, ◌*◌, ◌/◌, ◌%◌, ◌<◌, ◌≤◌, Bool, true, false, List, [], ◌∷◌, ◌++◌, length, drop, Some, nat_le, nat_lt, if◌then◌else◌, refl, ap, ◌∙◌, arith}
use Rattle.std.specs.List.{AllByRecursion}
use Rattle.std.proofs.lemmas.Bool.{and_parts, leb-true, ltb-true}
use Rattle.std.proofs.lemmas.List.{drop-append-le, length-drop}
use Rattle.byteorder.specs.Numbers.{little_from-append}
use Rattle.byteorder.specs.Endian.{little_number}
use Rattle.mv_base.specs.Bytes.{word_at}
use Rattle.mv_base.specs.Memory.{within}
use Rattle.mv_base.specs.Table.{group_count, page_named, paged_word, paged_entry, run_of}
use Rattle.mv_base.specs.declared.range.RunPlace.{RunPlace}
use Rattle.map_table.specs.Paged.{IsPaged}

-- a word of the front
word_front : (xs ys : List ℕ) (p : ℕ) → p + 4 ≤ length xs → word_at (xs ++ ys) p ≡ word_at xs p
unfolding word_at
word_front xs ys p room =
    ap (λ (l : List ℕ). little_number 4 l) (drop-append-le p xs ys (omega (arith, room)))
    ∙ little_from-append 4 (drop p xs) ys (omega (arith, room, length-drop p xs))

module _ (xs ys : List ℕ) (lo : ℕ) where
  -- the page that a directory names
  pub page_front : (r : RunPlace) → IsPaged xs lo r → (g : ℕ) → g < group_count r.len → page_named (xs ++ ys) lo r.dir g ≡ page_named xs lo r.dir g
  page_front r is g lt = word_front xs ys (r.dir - lo + 4 * g) (omega (arith, is.low, is.high, lt))

  -- the word for an address of a run
  word_same : (r : RunPlace) → IsPaged xs lo r → (a : ℕ) → r.lo ≤ a → a < r.lo + r.len → paged_word (xs ++ ys) lo a (Some r) ≡ paged_word xs lo a (Some r)
  word_same r is a low high =
      let k = a - r.lo in
      let g : k / 1024 < group_count r.len = omega (arith, low, high) in
      let page = page_named xs lo r.dir (k / 1024) in
      let from = is.page_low (k / 1024) g in
      let to = is.page_high (k / 1024) g in
      ap (λ (n : ℕ). word_at (xs ++ ys) (n - lo + 4 * (k % 1024))) (page_front r is (k / 1024) g)
      ∙ word_front xs ys (page - lo + 4 * (k % 1024)) (omega (arith, from, to))

  -- and the entry of any address
  pub entry_front : (rs : List RunPlace) → AllByRecursion (IsPaged xs lo) rs → (a : ℕ) → paged_entry (xs ++ ys) lo rs a ≡ paged_entry xs lo rs a
  entry_front [] all a = refl
  entry_front (r ∷ rs) all a = go (entry_front rs all.1 a) (within r.lo r.len a) refl
    where
      go : paged_entry (xs ++ ys) lo rs a ≡ paged_entry xs lo rs a → (b : Bool) → within r.lo r.len a ≡ b → paged_word (xs ++ ys) lo a (if b then Some r else run_of rs a) ≡ paged_word xs lo a (if b then Some r else run_of rs a)
      go rest true e =
          let p = and_parts (nat_le r.lo a) (nat_lt a (r.lo + r.len)) e in
          word_same r all.0 a (leb-true r.lo a p.0) (ltb-true a (r.lo + r.len) p.1)
      go rest false e = rest
