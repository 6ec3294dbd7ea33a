use Rattle.std.proofs.Common.{◌≡◌, ℕ, ◌+◌, ◌-◌, ◌^◌, ◌<◌, List, [], ◌∷◌, length, cond, None, is_some, ap, ◌∙◌, arith}
use Rattle.std.specs.List.{slice_get}
use Rattle.std.proofs.lemmas.List.Sums.{sum_by-cons}
use Rattle.std.proofs.lemmas.Option.{slice_get-get_or}
use Rattle.elf32_read.specs.declared.run.Run.{Run}
use Rattle.map_table.specs.Pairs.{IsPair}
use Rattle.map_table.specs.Paged.{IsMade}
use Rattle.map_table.specs.laws.Counts.{size_bound}
use Rattle.map_table.specs.laws.Skips.{inside}
use Rattle.map_table.proofs.tests.a_run_of_1025_addresses_has_two_groups.Goals as goal

pair : (bytes : List ℕ) (k to : ℕ) → length bytes ≡ 1025 → k < 1025 → 0 < to → to < 2 ^ 32 → IsPair (record { lo = 134512724; bytes = bytes } ∷ []) (134512724 + k, to)
pair bytes k to len lt some fits =
    let there = inside 134512724 (length bytes) (134512724 + k) (omega arith) (omega (arith, len, lt)) in
    let back : 134512724 + k - 134512724 ≡ k = omega arith in
    record {
      inside = ap (λ b. is_some (cond b (slice_get bytes (134512724 + k - 134512724)) None)) there ∙ (ap (λ n. is_some (slice_get bytes n)) back ∙ ap is_some (slice_get-get_or bytes k 0 (omega (arith, len, lt))));
      some = some;
      fits = fits;
    }

sample : (bytes : List ℕ) → length bytes ≡ 1025
    → IsMade (record { runs = record { lo = 134512724; bytes = bytes } ∷ []; pairs = (134512724, 1048576) ∷ (134512729, 1048608) ∷ (134512734, 1048640) ∷ []; lo = 1052672 })
sample bytes len =
    let r : Run = record { lo = 134512724; bytes = bytes } in
    let small = sum_by-cons (λ (q : Run). length q.bytes) r [] in
    record {
      runs = record { few = omega arith; apart = (omega arith, omega (arith, len), omega (arith, len), tt); small = omega (arith, small, len) };
      ascend = (omega arith, (omega arith, (omega arith, tt)));
      pairs = (pair bytes 0 1048576 len (omega arith) (omega arith) (omega arith), (pair bytes 5 1048608 len (omega arith) (omega arith) (omega arith), (pair bytes 10 1048640 len (omega arith) (omega arith) (omega arith), tt)));
      room = omega (arith, size_bound (r ∷ []) (134512724 ∷ 134512729 ∷ 134512734 ∷ []) (omega arith) (omega (arith, small, len)));
    }

pub build-requires : goal.build-requires
build-requires g c = sample c.new-bytes.result (omega (arith, ap (λ (l : List ℕ). length l) c.new-bytes.ensures, c.in_ok-vec.ensures.len))
