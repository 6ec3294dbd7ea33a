-- The words of an area as numbered places.
use Rattle.std.proofs.Common.{◌≡◌, ℕ, ◌+◌, ◌*◌, ◌^◌, ◌<◌, ◌≤◌, ◌⊎◌, inl, inr, Bool, true, false, ◌==◌, None, subst, arith}
use Rattle.std.proofs.lemmas.Bool.{cases_lt, eqb-false}
use Rattle.mv_base.specs.Memory.{Memory, is_writable}
use Rattle.step_laws.specs.Standing.{IsRoom}
use Rattle.step_laws.specs.laws.Logs.{HasPlaces}

-- word j of an area
abbrev pub word_place : ℕ → ℕ → ℕ
word_place p j = p + 4 * j

-- the words of an area that may be written, which are scratch
pub word_places : (p n : ℕ) (may scratch : ℕ → Bool) (m : Memory) → IsRoom m p (4 * n) → ((j : ℕ) → may j ≡ true → j < n)
    → ((j b : ℕ) → may j ≡ true → b < 4 → scratch (p + 4 * j + b) ≡ true) → ((a : ℕ) → 2 ^ 32 ≤ a → m a ≡ None) → HasPlaces (word_place p) may scratch m
word_places p n may scratch m room few inside top = record {
  low = λ j h. omega (arith, room.low, few j h);
  apart = apart;
  inside = inside;
  writable = λ j b h l.
      let here : p + (4 * j + b) ≡ p + 4 * j + b = omega arith in
      subst (λ a. is_writable m a ≡ true) here (room.writable (4 * j + b) (omega (arith, few j h)));
  top = top;
}
  where
    apart : (j k : ℕ) → may j ≡ true → may k ≡ true → (j == k) ≡ false → (p + 4 * j + 4 ≤ p + 4 * k) ⊎ (p + 4 * k + 4 ≤ p + 4 * j)
    apart j k a b e = go (cases_lt j k)
      where
        go : (j < k) ⊎ (k ≤ j) → (p + 4 * j + 4 ≤ p + 4 * k) ⊎ (p + 4 * k + 4 ≤ p + 4 * j)
        go (inl l) = inl (omega arith)
        go (inr l) = let other = eqb-false j k e in inr (omega arith)
