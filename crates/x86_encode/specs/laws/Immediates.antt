-- An immediate's bytes are the only ones of their length that spell it.
use Rattle.std.proofs.Common.{◌≡◌, ℕ, ◌+◌, ◌*◌, ◌/◌, ◌%◌, ◌^◌, ◌<◌, ◌≤◌, Bool, true, false, ◌⊎◌, List, [], ◌∷◌, ◌++◌, length, Some, None, refl, sym, ◌∙◌, ap, ap₂, subst, inl, inr, arith, take, take_all}
use Rattle.std.specs.Prelude.{nat_lt, ◌==◌, if◌then◌else◌}
use Rattle.std.proofs.lemmas.Bool.{eqb-true, eq-eqb, lt-ltb, le-ltb, ltb-true, cases_lt}
use Rattle.std.proofs.lemmas.List.{get_or-append-add}
use Rattle.mv_base.specs.Bytes.{AreBytes}
use Rattle.x86_insn.specs.declared.insn.Width.{Width}
use Rattle.x86_insn.specs.declared.insn.Width.TheVariants.{B, W, D}
use Rattle.x86_insn.specs.declared.row.Immediate.{Immediate}
use Rattle.x86_insn.specs.declared.row.Immediate.TheVariants.{Absent, Ib, SignedIb, Iw, Id, Iz}
use Rattle.x86_insn.specs.Addressing.{byte_at, dword_at, sign_extended}
use Rattle.x86_insn.specs.Spelling.{immediate_length, immediate_of, half_number, signed_byte}
use Rattle.x86_encode.specs.Address.{half_bytes, dword_bytes}
use Rattle.x86_encode.specs.Assembling.{fits_half, fits_dword, immediate_bytes}
use Rattle.x86_encode.specs.laws.Addressed.{no_bytes, bytes_after, dword_are_bytes, extended_low}
use Rattle.x86_encode.specs.laws.Shortest.{dword_least}

-- ---- behind other bytes

byte_behind : (a s : List ℕ) (k : ℕ) → byte_at (a ++ s) (length a + k) ≡ byte_at s k
byte_behind a s k = get_or-append-add a s k 0

byte_first : (a s : List ℕ) → byte_at (a ++ s) (length a) ≡ byte_at s 0
byte_first a s = let e : length a ≡ length a + 0 = omega arith in ap (byte_at (a ++ s)) e ∙ byte_behind a s 0

half_behind : (a s : List ℕ) → half_number (a ++ s) (length a) ≡ half_number s 0
half_behind a s = ap₂ (λ (x y : ℕ). x + 2 ^ 8 * y) (byte_first a s) (byte_behind a s 1)

dword_behind : (a s : List ℕ) → dword_at (a ++ s) (length a) ≡ dword_at s 0
dword_behind a s = rw (byte_first a s, byte_behind a s 1, byte_behind a s 2, byte_behind a s 3) refl

pub immediate_behind : (i : Immediate) (w : Width) (a s : List ℕ) → immediate_of i w (a ++ s) (length a) ≡ immediate_of i w s 0
immediate_behind Absent w a s = refl
immediate_behind Ib w a s = byte_first a s
immediate_behind SignedIb w a s = ap (signed_byte w) (byte_first a s)
immediate_behind Iw w a s = half_behind a s
immediate_behind Id w a s = dword_behind a s
immediate_behind Iz W a s = half_behind a s
immediate_behind Iz B a s = dword_behind a s
immediate_behind Iz D a s = dword_behind a s

-- ---- what is made names the number

pub record Holds (i : Immediate) (w : Width) (n : ℕ) (s : List ℕ) : Type 0 where
  pub size : length s ≡ immediate_length i w
  pub holds : immediate_of i w s 0 ≡ n
  pub bytes : AreBytes s

half_holds : (n : ℕ) (s : List ℕ) → fits_half n ≡ Some s → (length s ≡ 2) × (half_number s 0 ≡ n) × AreBytes s
half_holds n s e = go (cases_lt n (2 ^ 16)) e
  where
    go : (n < 2 ^ 16) ⊎ (2 ^ 16 ≤ n) → fits_half n ≡ Some s → (length s ≡ 2) × (half_number s 0 ≡ n) × AreBytes s
    go (inl l) h =
        let f : half_bytes n ≡ s = cc (ap (λ (v : Bool). if v then Some (half_bytes n) else None) (lt-ltb n (2 ^ 16) l), h) in
        subst (λ (u : List ℕ). (length u ≡ 2) × (half_number u 0 ≡ n) × AreBytes u) f (refl, omega arith, bytes_after (n % 2 ^ 8) (n / 2 ^ 8 % 2 ^ 8 ∷ []) (omega arith) (bytes_after (n / 2 ^ 8 % 2 ^ 8) [] (omega arith) no_bytes))
    go (inr l) h = absurd (cc (ap (λ (v : Bool). if v then Some (half_bytes n) else None) (le-ltb n (2 ^ 16) l), h))

dword_holds : (n : ℕ) (s : List ℕ) → fits_dword n ≡ Some s → (length s ≡ 4) × (dword_at s 0 ≡ n) × AreBytes s
dword_holds n s e = go (cases_lt n (2 ^ 32)) e
  where
    go : (n < 2 ^ 32) ⊎ (2 ^ 32 ≤ n) → fits_dword n ≡ Some s → (length s ≡ 4) × (dword_at s 0 ≡ n) × AreBytes s
    go (inl l) h =
        let f : dword_bytes n ≡ s = cc (ap (λ (v : Bool). if v then Some (dword_bytes n) else None) (lt-ltb n (2 ^ 32) l), h) in
        subst (λ (u : List ℕ). (length u ≡ 4) × (dword_at u 0 ≡ n) × AreBytes u) f (refl, omega arith, dword_are_bytes n)
    go (inr l) h = absurd (cc (ap (λ (v : Bool). if v then Some (dword_bytes n) else None) (le-ltb n (2 ^ 32) l), h))

-- one byte under a test
lone : (t : Bool) (b : ℕ) (s : List ℕ) → (if t then Some (b ∷ []) else None) ≡ Some s → (t ≡ true) × (b ∷ [] ≡ s)
lone true b s h = (refl, cc h)
lone false b s h = absurd (cc h)

none_left : (t : Bool) (s : List ℕ) → (if t then Some [] else None) ≡ Some s → (t ≡ true) × ([] ≡ s)
none_left true s h = (refl, cc h)
none_left false s h = absurd (cc h)

pub immediate_holds : (i : Immediate) (w : Width) (n : ℕ) (s : List ℕ) → immediate_bytes i w n ≡ Some s → Holds i w n s
immediate_holds Absent w n s e = let t = none_left (n == 0) s e in subst (Holds Absent w n) t.1 (record { size = refl; holds = sym (eqb-true n 0 t.0); bytes = no_bytes })
immediate_holds Ib w n s e = let t = lone (nat_lt n (2 ^ 8)) n s e in let l = ltb-true n (2 ^ 8) t.0 in subst (Holds Ib w n) t.1 (record { size = refl; holds = refl; bytes = bytes_after n [] l no_bytes })
immediate_holds SignedIb w n s e = let t = lone (signed_byte w (n % 2 ^ 8) == n) (n % 2 ^ 8) s e in subst (Holds SignedIb w n) t.1 (record { size = refl; holds = eqb-true _ n t.0; bytes = bytes_after (n % 2 ^ 8) [] (omega arith) no_bytes })
immediate_holds Iw w n s e = let h = half_holds n s e in record { size = h.0; holds = h.1; bytes = h.2 }
immediate_holds Id w n s e = let h = dword_holds n s e in record { size = h.0; holds = h.1; bytes = h.2 }
immediate_holds Iz W n s e = let h = half_holds n s e in record { size = h.0; holds = h.1; bytes = h.2 }
immediate_holds Iz B n s e = let h = dword_holds n s e in record { size = h.0; holds = h.1; bytes = h.2 }
immediate_holds Iz D n s e = let h = dword_holds n s e in record { size = h.0; holds = h.1; bytes = h.2 }

-- ---- what spells a number is made of it

signed_low : (w : Width) (b : ℕ) → b < 256 → signed_byte w b % 2 ^ 8 ≡ b
signed_low B b h = omega arith
signed_low D b h = (extended_low b h).1
signed_low W b h = go (cases_lt b 0x80)
  where
    go : (b < 0x80) ⊎ (0x80 ≤ b) → sign_extended 16 b % 2 ^ 8 ≡ b
    go (inl l) = let e : sign_extended 16 b ≡ b = ap (λ (v : Bool). if v then b else b + 0xFF00) (lt-ltb b 0x80 l) in omega arith
    go (inr l) = let e : sign_extended 16 b ≡ b + 0xFF00 = ap (λ (v : Bool). if v then b else b + 0xFF00) (le-ltb b 0x80 l) in omega arith

half_made : (t : List ℕ) → AreBytes t → length t ≡ 2 → fits_half (half_number t 0) ≡ Some t
half_made [] bytes l = absurd (omega arith)
half_made (a ∷ []) bytes l = absurd (omega arith)
half_made (a ∷ b ∷ []) bytes l =
    let p : a < 256 = bytes 0 in
    let q : b < 256 = bytes 1 in
    let e : (a + 2 ^ 8 * b) % 2 ^ 8 ≡ a = omega arith in
    let f : (a + 2 ^ 8 * b) / 2 ^ 8 % 2 ^ 8 ≡ b = omega arith in
    let g : half_bytes (a + 2 ^ 8 * b) ≡ a ∷ b ∷ [] = cc in
    ap (λ (v : Bool). if v then Some (half_bytes (a + 2 ^ 8 * b)) else None) (lt-ltb (a + 2 ^ 8 * b) (2 ^ 16) (omega arith)) ∙ ap Some g
half_made (a ∷ b ∷ c ∷ t) bytes l = absurd (omega arith)

take_whole : (t : List ℕ) → length t ≡ 4 → take 4 t ≡ t
take_whole t l = take_all 4 t (omega arith)

dword_made : (t : List ℕ) → AreBytes t → length t ≡ 4 → fits_dword (dword_at t 0) ≡ Some t
dword_made t bytes l =
    let w = dword_least t bytes (omega arith) in
    ap (λ (v : Bool). if v then Some (dword_bytes (dword_at t 0)) else None) (lt-ltb (dword_at t 0) (2 ^ 32) w.0) ∙ ap Some (w.1 ∙ take_whole t l)

nil_of : (t : List ℕ) → length t ≡ 0 → [] ≡ t
nil_of [] l = refl
nil_of (x ∷ t) l = absurd (omega arith)

pub immediate_made : (i : Immediate) (w : Width) (t : List ℕ) → AreBytes t → length t ≡ immediate_length i w → immediate_bytes i w (immediate_of i w t 0) ≡ Some t
immediate_made Absent w t bytes l = ap Some (nil_of t l)
immediate_made Ib w [] bytes l = absurd (omega arith)
immediate_made Ib w (b ∷ []) bytes l = ap (λ (v : Bool). if v then Some (b ∷ []) else None) (lt-ltb b (2 ^ 8) (bytes 0))
immediate_made Ib w (b ∷ c ∷ t) bytes l = absurd (omega arith)
immediate_made SignedIb w [] bytes l = absurd (omega arith)
immediate_made SignedIb w (b ∷ []) bytes l =
    let n = signed_byte w b in
    let low : n % 2 ^ 8 ≡ b = signed_low w b (bytes 0) in
    ap (λ (v : Bool). if v then Some (n % 2 ^ 8 ∷ []) else None) (eq-eqb (signed_byte w (n % 2 ^ 8)) n (ap (signed_byte w) low)) ∙ ap (λ (k : ℕ). Some (k ∷ [])) low
immediate_made SignedIb w (b ∷ c ∷ t) bytes l = absurd (omega arith)
immediate_made Iw w t bytes l = half_made t bytes l
immediate_made Id w t bytes l = dword_made t bytes l
immediate_made Iz W t bytes l = half_made t bytes l
immediate_made Iz B t bytes l = dword_made t bytes l
immediate_made Iz D t bytes l = dword_made t bytes l
