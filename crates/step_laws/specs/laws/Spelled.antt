-- Bytes that spell an instruction: closed bytes, and bytes that end with a number.
use Rattle.std.proofs.Common.{◌≡◌, ℕ, suc, ◌+◌, ◌*◌, ◌/◌, ◌%◌, ◌^◌, ◌<◌, ◌≤◌, true, List, [], ◌∷◌, ◌++◌, length, Some, nat_lt, refl, ap, ◌∙◌, arith, length-append}
use Rattle.std.proofs.lemmas.Bool.{le-leb}
use Rattle.mv_base.specs.Bytes.{word}
use Rattle.x86_insn.specs.declared.insn.Insn.{Insn}
use Rattle.x86_insn.specs.Addressing.{dword_at}
use Rattle.x86_insn.specs.Agreeing.{both_true, and_true}
use Rattle.x86_insn.specs.PrefixScan.{unlimited}
use Rattle.x86_insn.specs.Spelling.{are_bytes, spelled}
use Rattle.x86_insn.specs.Laws.{of_limited}

-- these bytes spell this instruction
pub record Spelled (x : List ℕ) (i : Insn) : Type 0 where
  pub spells : spelled x ≡ Some i

both_bytes : (s t : List ℕ) → are_bytes s ≡ true → are_bytes t ≡ true → are_bytes (s ++ t) ≡ true
both_bytes [] t h k = k
both_bytes (b ∷ s) t h k = let w = both_true (nat_lt b 256) (are_bytes s) h in and_true _ _ w.0 (both_bytes s t w.1 k)

byte_test : (a : ℕ) → a < 256 → nat_lt a 256 ≡ true
byte_test a h = le-leb (suc a) 256 h

-- some bytes and then a number of four bytes: it is enough that they spell it for any four bytes
pub with_number : (front : List ℕ) (make : ℕ → Insn) → ((a b c d : ℕ) → unlimited (front ++ a ∷ b ∷ c ∷ d ∷ []) ≡ Some (make (dword_at (a ∷ b ∷ c ∷ d ∷ []) 0))) → length front ≤ 11 → are_bytes front ≡ true → (n : ℕ) → n < 2 ^ 32 → Spelled (front ++ word n) (make n)
unfolding word
with_number front make each short bytes n low =
    let whole : n % 256 + 2 ^ 8 * (n / 256 % 256) + 2 ^ 16 * (n / 65536 % 256) + 2 ^ 24 * (n / 16777216 % 256) ≡ n = omega arith in
    record {
      spells =
          of_limited (front ++ word n) _ (record {
            limit = omega (arith, length-append front (word n));
            bytes = both_bytes front (word n) bytes (and_true _ _ (byte_test (n % 256) (omega arith)) (and_true _ _ (byte_test (n / 256 % 256) (omega arith)) (and_true _ _ (byte_test (n / 65536 % 256) (omega arith)) (and_true _ _ (byte_test (n / 16777216 % 256) (omega arith)) refl))));
            spells = each (n % 256) (n / 256 % 256) (n / 65536 % 256) (n / 16777216 % 256);
          })
          ∙ ap (λ (k : ℕ). Some (make k)) whole;
    }
