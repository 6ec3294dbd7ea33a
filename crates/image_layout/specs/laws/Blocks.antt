-- Where the block has room, and how long its parts are.
use Rattle.std.proofs.Common.{◌≡◌, ℕ, zero, suc, ◌+◌, ◌*◌, ◌/◌, ◌≤◌, Bool, true, cond, leb, List, [], ◌∷◌, length, Option, Some, None, refl, sym, ap, ◌∙◌, subst, inl, inr, arith}
use Rattle.std.specs.List.{list_all}
use Rattle.std.specs.Option.{option_map}
use Rattle.std.proofs.lemmas.Bool.{cases_Bool, leb-true, and_parts}
use Rattle.std.proofs.lemmas.Option.{none-some, same_Some}
use Rattle.mv_base.specs.Table.{group_count}
use Rattle.elf32_read.specs.declared.image.Segment.{Segment}
use Rattle.elf32_read.specs.declared.run.Run.{Run}
use Rattle.map_table.specs.Paged.{places_from}
use Rattle.image_layout.specs.Fit.{is_apart, has_room, lowest, first_fit}

-- ---- the lowest number that passes

pub lowest_passes : (test : ℕ → Bool) (n from q : ℕ) → lowest test from n ≡ Some q → (test q ≡ true) × (from ≤ q)
unfolding lowest
lowest_passes test zero from q e = absurd (none-some q e)
lowest_passes test (suc n) from q e =
    elim (cases_Bool (test from)) [
      | inl passed ↦
          let same : from ≡ q = same_Some from q (sym (ap (λ t. cond t (Some from) (lowest test (from + 1) n)) passed) ∙ e) in
          (subst (λ k. test k ≡ true) same passed, omega (arith, same))
      | inr fails ↦
          let later = lowest_passes test n (from + 1) q (sym (ap (λ t. cond t (Some from) (lowest test (from + 1) n)) fails) ∙ e) in
          (later.0, omega (arith, later.1))
    ]

-- ---- as many runs have places as there are

pub length-run_places : (dir : ℕ) (rs : List Run) → length (places_from dir rs) ≡ length rs
unfolding places_from
length-run_places dir [] = refl
length-run_places dir (r ∷ rs) = ap suc (length-run_places (dir + 4 * group_count (length r.bytes)) rs)

-- the block's page and room, and each segment apart from it
pub record HasRoom (ss : List Segment) (size base : ℕ) : Type 0 where
  pub page : ℕ
  pub at : base ≡ 4096 * page
  pub from : 0x100 ≤ page
  pub low : base + size ≤ 0xB0000000
  pub apart : list_all (is_apart page (page + size / 4096)) ss ≡ true

abbrev page_base : ℕ → ℕ
page_base page = 4096 * page

base_by : (o : Option ℕ) (base : ℕ) → option_map page_base o ≡ Some base → (page : ℕ) × (o ≡ Some page) × (base ≡ 4096 * page)
base_by None base e = absurd (none-some base e)
base_by (Some page) base e = (page, refl, sym (same_Some (page_base page) base e))

pub room_at : (ss : List Segment) (size base : ℕ) → first_fit ss size ≡ Some base → HasRoom ss size base
unfolding first_fit has_room
room_at ss size base e =
    let test = has_room ss size in
    let p = base_by (lowest test 0x100 0xAFF00) base e in
    let found = lowest_passes test 0xAFF00 0x100 p.0 p.1 in
    let room = and_parts (leb (4096 * p.0 + size) 0xB0000000) (list_all (is_apart p.0 (p.0 + size / 4096)) ss) found.0 in
    record { page = p.0; at = p.2; from = found.1; low = omega (arith, p.2, leb-true (4096 * p.0 + size) 0xB0000000 room.0); apart = room.1 }
