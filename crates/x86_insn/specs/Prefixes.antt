-- The prefixes of an instruction. Intel SDM, volume 2, section 2.1.1; which of them may stand together is this
-- project's own.
use Rattle.std.specs.Prelude.{ℕ, Bool, true, false, ◌&&◌, ◌||◌, List, [], ◌∷◌, ◌++◌, count_by, nat_eq, nat_le}
use Rattle.x86_insn.specs.declared.insn.Rep.{Rep}
use Rattle.x86_insn.specs.declared.insn.Rep.TheVariants.{Once, F3, F2}
use Rattle.x86_insn.specs.declared.row.Marks.{Marks}

-- the segment prefixes that may stand: ES, CS, SS, DS and GS
abbrev pub segments : List ℕ
segments = 0x26 ∷ 0x2E ∷ 0x36 ∷ 0x3E ∷ 0x65 ∷ []

-- the lock prefix and the repeat prefixes
abbrev pub locks_and_repeats : List ℕ
locks_and_repeats = 0xF0 ∷ 0xF2 ∷ 0xF3 ∷ []

-- a byte is one of a list
abbrev pub is_among : List ℕ → ℕ → Bool
is_among [] b = false
is_among (x ∷ xs) b = nat_eq b x || is_among xs b

abbrev pub is_prefix : ℕ → Bool
is_prefix b = is_among (0x66 ∷ segments ++ locks_and_repeats) b

-- each byte of a list is a prefix
abbrev pub are_prefixes : List ℕ → Bool
are_prefixes [] = true
are_prefixes (b ∷ bs) = is_prefix b && are_prefixes bs

-- at most one of a group stands; it may stand several times
abbrev pub at_most_one : List ℕ → List ℕ → Bool
at_most_one group prefixes = nat_le (count_by (is_among prefixes) group) 1

abbrev pub may_stand_together : List ℕ → Bool
may_stand_together prefixes = at_most_one segments prefixes && at_most_one locks_and_repeats prefixes

-- which repeat prefix stands, by whether F3 and F2 do
abbrev pub rep_of : Bool → Bool → Rep
rep_of true f2 = F3
rep_of false true = F2
rep_of false false = Once

-- what prefixes set; those of the segments set nothing, but for GS
abbrev pub marks_of : List ℕ → Marks
marks_of prefixes = record { word = is_among prefixes 0x66; lock = is_among prefixes 0xF0; rep = rep_of (is_among prefixes 0xF3) (is_among prefixes 0xF2); gs = is_among prefixes 0x65 }
