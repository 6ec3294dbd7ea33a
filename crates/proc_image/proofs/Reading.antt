-- The values of one, two and four bytes.
use Rattle.std.proofs.Common.{◌≡◌, ℕ, suc, ◌+◌, ◌*◌, ◌/◌, ◌%◌, Bool, true, false, [], ◌∷◌, Some, None, Ok, Err, if◌then◌else◌, refl, sym, ap, ap₂, ◌∙◌, arith}
use Rattle.byteorder.specs.Endian.{little_number}
use Rattle.mv_base.specs.Bytes.{number}
use Rattle.mv_base.specs.Memory.{Memory, is_mapped, byte_of, address_after, first_failing, bytes_at, read_fault}
use Rattle.proc_image.specs.Access.{IsByte, IsValueAt}

-- the first address fails, or the first that fails is one of the others
pub first_failing-here : (test : ℕ → Bool) (a n : ℕ) → test a ≡ false → first_failing test a (suc n) ≡ Some a
unfolding first_failing
first_failing-here test a n fails = ap (λ t. if t then first_failing test (address_after a 1) n else Some a) fails

pub first_failing-next : (test : ℕ → Bool) (a n : ℕ) → test a ≡ true → first_failing test a (suc n) ≡ first_failing test (address_after a 1) n
unfolding first_failing
first_failing-next test a n passes = ap (λ t. if t then first_failing test (address_after a 1) n else Some a) passes

pub first_failing-none : (test : ℕ → Bool) (a : ℕ) → first_failing test a 0 ≡ None
unfolding first_failing
first_failing-none test a = refl

-- a byte in front of others
pub bytes_at-next : (m : Memory) (a n : ℕ) → bytes_at m a (suc n) ≡ byte_of (m a) ∷ bytes_at m (address_after a 1) n
unfolding bytes_at
bytes_at-next m a n = refl

pub bytes_at-none : (m : Memory) (a : ℕ) → bytes_at m a 0 ≡ []
unfolding bytes_at
bytes_at-none m a = refl

-- one byte
pub IsValueAt-byte : (m : Memory) (a b : ℕ) → IsByte m a (Ok b) → IsValueAt m a 1 b
unfolding number
IsValueAt-byte m a b is =
    let bytes : bytes_at m a 1 ≡ b ∷ [] = bytes_at-next m a 0 ∙ ap₂ ◌∷◌ is.1 (bytes_at-none m (address_after a 1)) in
    let small = is.2 in
    let spelled : b ≡ b + 256 * 0 = omega arith in
    let low : b % 256 ≡ b = omega arith in
    record {
      mapped = first_failing-next (is_mapped m) a 0 is.0 ∙ first_failing-none (is_mapped m) (address_after a 1);
      spelled = rw bytes spelled;
      bytes = rw bytes (ap (λ x. x ∷ []) low);
      fits = is.2;
    }

-- two bytes
pub IsValueAt-word : (m : Memory) (a b c n : ℕ) → IsByte m a (Ok b) → IsByte m (address_after a 1) (Ok c) → n ≡ little_number 2 (b ∷ c ∷ []) → IsValueAt m a 2 n
unfolding number
IsValueAt-word m a b c n first next is =
    let a' : ℕ = address_after a 1 in
    let bytes : bytes_at m a 2 ≡ b ∷ c ∷ [] =
    bytes_at-next m a 1 ∙ ap₂ ◌∷◌ first.1 (bytes_at-next m a' 0 ∙ ap₂ ◌∷◌ next.1 (bytes_at-none m (address_after a' 1))) in
    let small = first.2 in
    let small' = next.2 in
    let low : n % 256 ≡ b = omega arith in
    let high : n / 256 % 256 ≡ c = omega arith in
    record {
      mapped = first_failing-next (is_mapped m) a 1 first.0 ∙ first_failing-next (is_mapped m) a' 0 next.0 ∙ first_failing-none (is_mapped m) (address_after a' 1);
      spelled = rw bytes is;
      bytes = rw bytes (ap₂ ◌∷◌ low (ap (λ x. x ∷ []) high));
      fits = omega arith;
    }

-- four bytes
pub IsValueAt-dword : (m : Memory) (a b c d e n : ℕ) → IsByte m a (Ok b) → IsByte m (address_after a 1) (Ok c)
    → IsByte m (address_after (address_after a 1) 1) (Ok d) → IsByte m (address_after (address_after (address_after a 1) 1) 1) (Ok e)
    → n ≡ little_number 4 (b ∷ c ∷ d ∷ e ∷ []) → IsValueAt m a 4 n
unfolding number
IsValueAt-dword m a b c d e n first next third fourth is =
    let a' : ℕ = address_after a 1 in
    let a'' : ℕ = address_after a' 1 in
    let a''' : ℕ = address_after a'' 1 in
    let bytes : bytes_at m a 4 ≡ b ∷ c ∷ d ∷ e ∷ [] =
    bytes_at-next m a 3 ∙ ap₂ ◌∷◌ first.1 (bytes_at-next m a' 2 ∙ ap₂ ◌∷◌ next.1 (bytes_at-next m a'' 1 ∙ ap₂ ◌∷◌ third.1
    (bytes_at-next m a''' 0 ∙ ap₂ ◌∷◌ fourth.1 (bytes_at-none m (address_after a''' 1))))) in
    let small = first.2 in
    let small' = next.2 in
    let small'' = third.2 in
    let small''' = fourth.2 in
    let one : n % 256 ≡ b = omega arith in
    let two : n / 256 % 256 ≡ c = omega arith in
    let three : n / 65536 % 256 ≡ d = omega arith in
    let four : n / 16777216 % 256 ≡ e = omega arith in
    record {
      mapped =
          first_failing-next (is_mapped m) a 3 first.0 ∙ first_failing-next (is_mapped m) a' 2 next.0 ∙ first_failing-next (is_mapped m) a'' 1 third.0
          ∙ first_failing-next (is_mapped m) a''' 0 fourth.0 ∙ first_failing-none (is_mapped m) (address_after a''' 1);
      spelled = rw bytes is;
      bytes = rw bytes (ap₂ ◌∷◌ one (ap₂ ◌∷◌ two (ap₂ ◌∷◌ three (ap (λ x. x ∷ []) four))));
      fits = omega arith;
    }

-- a byte that is not mapped, after others that are
pub fault-first : (m : Memory) (a n f : ℕ) → IsByte m a (Err f) → read_fault m a (suc n) ≡ Some f
fault-first m a n f last = first_failing-here (is_mapped m) a n last.0 ∙ ap Some (sym last.1)

pub fault-second : (m : Memory) (a n b f : ℕ) → IsByte m a (Ok b) → IsByte m (address_after a 1) (Err f) → read_fault m a (suc (suc n)) ≡ Some f
fault-second m a n b f first last = first_failing-next (is_mapped m) a (suc n) first.0 ∙ fault-first m (address_after a 1) n f last

pub fault-third : (m : Memory) (a n b c f : ℕ) → IsByte m a (Ok b) → IsByte m (address_after a 1) (Ok c) → IsByte m (address_after (address_after a 1) 1) (Err f)
    → read_fault m a (suc (suc (suc n))) ≡ Some f
fault-third m a n b c f first next last = first_failing-next (is_mapped m) a (suc (suc n)) first.0 ∙ fault-second m (address_after a 1) n c f next last

pub fault-fourth : (m : Memory) (a n b c d f : ℕ) → IsByte m a (Ok b) → IsByte m (address_after a 1) (Ok c) → IsByte m (address_after (address_after a 1) 1) (Ok d)
    → IsByte m (address_after (address_after (address_after a 1) 1) 1) (Err f) → read_fault m a (suc (suc (suc (suc n)))) ≡ Some f
fault-fourth m a n b c d f first next third last =
    first_failing-next (is_mapped m) a (suc (suc (suc n))) first.0 ∙ fault-third m (address_after a 1) n c d f next third last
