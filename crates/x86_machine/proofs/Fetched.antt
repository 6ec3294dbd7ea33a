-- What is fetched, by the executable bytes from an address on.
use Rattle.std.proofs.Common.{◌≡◌, ℕ, suc, ◌+◌, ◌<◌, ◌≤◌, zero, List, ◌∷◌, ◌++◌, length, take, take-take, length-take, Option, Some, None, refl, sym, ap, ◌∙◌, subst, arith}
use Rattle.std.proofs.Math.Seq.{take-append_seam}
use Rattle.mv_base.specs.Memory.{exec_bytes, with_rest}
use Rattle.x86_insn.specs.declared.insn.Insn.{Insn}
use Rattle.x86_insn.specs.Spelling.{decoded}
use Rattle.x86_insn.specs.Laws.{decoded_alike, decoded_bounds}
use Rattle.x86_insn.specs.Step.{Absent, Found, found, fetched, fetch_in}

-- the first byte, where there are bytes
first : (code : ℕ → Option ℕ) (a n : ℕ) → exec_bytes code a (suc n) ≡ with_rest (code a) (exec_bytes code (a + 1) n)
unfolding exec_bytes
first code a n = refl

none-there : (c : Option ℕ) (rest : List ℕ) → length (with_rest c rest) ≡ 0 → c ≡ None
none-there None rest e = refl
none-there (Some b) rest e = absurd (omega (arith, e))

some-there : (c : Option ℕ) (rest : List ℕ) → 0 < length (with_rest c rest) → (b : ℕ) × (c ≡ Some b)
some-there None rest e = absurd (omega (arith, e))
some-there (Some b) rest e = (b, refl)

-- no byte is there
pub fetch-absent : (code : ℕ → Option ℕ) (a : ℕ) → length (exec_bytes code a 15) ≡ 0 → fetch_in code a ≡ Absent
unfolding fetch_in
fetch-absent code a none =
    let missing = none-there (code a) (exec_bytes code (a + 1) 14) (ap length (sym (first code a 14)) ∙ none) in
    ap (λ c. fetched c (decoded (exec_bytes code a 15))) missing

-- bytes are there, and decode so
pub fetch-decoded : (code : ℕ → Option ℕ) (a : ℕ) (d : Option (Insn × ℕ)) → 0 < length (exec_bytes code a 15) → decoded (exec_bytes code a 15) ≡ d → fetch_in code a ≡ found d
unfolding fetch_in
fetch-decoded code a d some is =
    let there = some-there (code a) (exec_bytes code (a + 1) 14) (subst (λ n. 0 < n) (ap length (first code a 14)) some) in
    ap (λ c. fetched c (decoded (exec_bytes code a 15))) there.1 ∙ ap found is

-- the bytes in front of others
pub front : (bytes to rest : List ℕ) (n : ℕ) → to ≡ bytes ++ rest → n ≡ length bytes → take n to ≡ bytes
front bytes to rest n is long = rw (is, long) (take-append_seam bytes rest)

-- ---- what stands there already

-- those at the front
exec-front : (code : ℕ → Option ℕ) (a k n : ℕ) → k ≤ n → take k (exec_bytes code a n) ≡ exec_bytes code a k
unfolding exec_bytes
exec-front code a zero n below = refl
exec-front code a (suc k) zero below = absurd (omega arith)
exec-front code a (suc k) (suc n) below = go (code a) (exec-front code (a + 1) k n (omega arith))
  where
    go : (c : Option ℕ) → take k (exec_bytes code (a + 1) n) ≡ exec_bytes code (a + 1) k → take (suc k) (with_rest c (exec_bytes code (a + 1) n)) ≡ with_rest c (exec_bytes code (a + 1) k)
    go None e = refl
    go (Some b) e = ap (λ bytes. b ∷ bytes) e

-- bytes that spell an instruction stand there
pub fetch-standing : (code : ℕ → Option ℕ) (a : ℕ) (bytes : List ℕ) (i : Insn) (n : ℕ) → length bytes ≤ 15 → exec_bytes code a (length bytes) ≡ bytes → decoded bytes ≡ Some (i, n)
    → fetch_in code a ≡ Found i n
fetch-standing code a bytes i n short there reads =
    let all : List ℕ = exec_bytes code a 15 in
    let w = decoded_bounds bytes i n reads in
    let same : take n all ≡ take n bytes = sym (take-take n (length bytes) all w.2) ∙ ap (take n) (exec-front code a (length bytes) 15 short ∙ there) in
    let whole = decoded_alike bytes all i n reads same in
    let v = decoded_bounds all i n whole in
    fetch-decoded code a (Some (i, n)) (omega (arith, v.0, v.2)) whole

-- the bytes of an instruction alone
pub front-decoded : (to : List ℕ) (n : ℕ) (i : Insn) (len : ℕ) → decoded (take n to) ≡ Some (i, len) → decoded (take len to) ≡ Some (i, len)
front-decoded to n i len reads =
    let w = decoded_bounds (take n to) i len reads in
    let within : len ≤ n = omega (arith, w.2, length-take {A = ℕ} n to) in
    decoded_alike (take n to) (take len to) i len reads (take-take len len to (omega arith) ∙ sym (take-take len n to within))

pub front-fits : (bytes : List ℕ) (i : Insn) (len : ℕ) → decoded bytes ≡ Some (i, len) → len ≤ 15
front-fits bytes i len reads = (decoded_bounds bytes i len reads).1
