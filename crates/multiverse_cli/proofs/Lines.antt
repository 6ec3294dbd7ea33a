-- The bytes of a site's line, one after the other.
use Rattle.std.proofs.Common.{◌≡◌, ℕ, suc, ◌+◌, List, ◌++◌, Option, Some, None, sym, ap, ◌∙◌, append-nil, append_assoc, arith}
use Rattle.mv_base.specs.Memory.{exec_bytes}
use Rattle.mv_base.specs.Text.{hex_digits}
use Rattle.superset.specs.RunBytes.{exec_none, exec_some, exec_zero}
use Rattle.multiverse_cli.specs.Listing.{hex_pairs}

-- a byte more
pub next-byte :
    (code : ℕ → Option ℕ) (a n m b : ℕ) (to more all : List ℕ) → code a ≡ Some b → n ≡ m + 1 → more ≡ to ++ hex_digits 2 b
    → to ++ hex_pairs (exec_bytes code a n) ≡ all → more ++ hex_pairs (exec_bytes code (a + 1) m) ≡ all
next-byte code a n m b to more all there count e h =
    let next : n ≡ suc m = omega arith in
    ap (λ t. t ++ hex_pairs (exec_bytes code (a + 1) m)) e
    ∙ append_assoc to (hex_digits 2 b) (hex_pairs (exec_bytes code (a + 1) m))
    ∙ ap (λ bytes. to ++ hex_pairs bytes) (sym (exec_some code a m b there) ∙ ap (exec_bytes code a) (sym next))
    ∙ h

-- no byte more
pub no-byte :
    (code : ℕ → Option ℕ) (a n : ℕ) (to all : List ℕ) → code a ≡ None → to ++ hex_pairs (exec_bytes code a n) ≡ all
    → to ≡ all
no-byte code a n to all none h =
    sym (append-nil to) ∙ ap (λ bytes. to ++ hex_pairs bytes) (sym (exec_none code a n none)) ∙ h

-- no byte is left
pub all-bytes :
    (code : ℕ → Option ℕ) (a n : ℕ) (to all : List ℕ) → n ≡ 0 → to ++ hex_pairs (exec_bytes code a n) ≡ all → to ≡ all
all-bytes code a n to all none h =
    sym (append-nil to) ∙ ap (λ bytes. to ++ hex_pairs bytes) (sym (ap (exec_bytes code a) none ∙ exec_zero code a)) ∙ h
