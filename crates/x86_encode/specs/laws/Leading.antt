-- Prefixes: those that are written set what they are to set, and are the least that set it.
use Rattle.std.proofs.Common.{◌≡◌, ℕ, ◌+◌, ◌<◌, ◌≤◌, Bool, true, false, ◌⊎◌, List, [], ◌∷◌, ◌++◌, length, refl, sym, ◌∙◌, inl, inr, arith}
use Rattle.std.specs.Prelude.{◌||◌, nat_eq}
use Rattle.std.proofs.lemmas.Bool.{eqb-true}
use Rattle.std.proofs.lemmas.List.{length-append}
use Rattle.x86_insn.specs.declared.insn.Rep.{Rep}
use Rattle.x86_insn.specs.declared.insn.Rep.TheVariants.{Once, F3, F2}
use Rattle.x86_insn.specs.declared.row.Marks.{Marks}
use Rattle.x86_insn.specs.Prefixes.{is_among, are_prefixes, may_stand_together, rep_of, marks_of}
use Rattle.x86_encode.specs.Order.{ByteUpto, Upto}
use Rattle.x86_encode.specs.Assembling.{group_bytes, word_bytes, segment_bytes, prefix_bytes}

-- ---- what they set

-- F0 doesn't stand beside F2 or F3
abbrev pub Apart : Marks → Type 0
Apart m = (m.lock ≡ false) ⊎ (m.rep ≡ Once)

pub record Sets (m : Marks) : Type 0 where
  pub are_prefixes : are_prefixes (prefix_bytes m) ≡ true
  pub together : may_stand_together (prefix_bytes m) ≡ true
  pub marks : marks_of (prefix_bytes m) ≡ m

sets_by : (word lock : Bool) (rep : Rep) (gs : Bool) → Apart (record { word = word; lock = lock; rep = rep; gs = gs }) → Sets (record { word = word; lock = lock; rep = rep; gs = gs })
sets_by true true Once true h = record { are_prefixes = refl; together = refl; marks = refl }
sets_by true true Once false h = record { are_prefixes = refl; together = refl; marks = refl }
sets_by true false Once true h = record { are_prefixes = refl; together = refl; marks = refl }
sets_by true false Once false h = record { are_prefixes = refl; together = refl; marks = refl }
sets_by true false F2 true h = record { are_prefixes = refl; together = refl; marks = refl }
sets_by true false F2 false h = record { are_prefixes = refl; together = refl; marks = refl }
sets_by true false F3 true h = record { are_prefixes = refl; together = refl; marks = refl }
sets_by true false F3 false h = record { are_prefixes = refl; together = refl; marks = refl }
sets_by false true Once true h = record { are_prefixes = refl; together = refl; marks = refl }
sets_by false true Once false h = record { are_prefixes = refl; together = refl; marks = refl }
sets_by false false Once true h = record { are_prefixes = refl; together = refl; marks = refl }
sets_by false false Once false h = record { are_prefixes = refl; together = refl; marks = refl }
sets_by false false F2 true h = record { are_prefixes = refl; together = refl; marks = refl }
sets_by false false F2 false h = record { are_prefixes = refl; together = refl; marks = refl }
sets_by false false F3 true h = record { are_prefixes = refl; together = refl; marks = refl }
sets_by false false F3 false h = record { are_prefixes = refl; together = refl; marks = refl }
sets_by word true F2 gs h = absurd (elim h [ inl e ↦ cc e | inr e ↦ cc e ])
sets_by word true F3 gs h = absurd (elim h [ inl e ↦ cc e | inr e ↦ cc e ])

pub sets : (m : Marks) → Apart m → Sets m
sets m h = sets_by m.word m.lock m.rep m.gs h

-- 65 aside there are two at most
pub prefixes_short : (m : Marks) → length (prefix_bytes m) ≤ length (segment_bytes m.gs) + 2
prefixes_short m = omega (arith, length-append (segment_bytes m.gs ++ word_bytes m.word) (group_bytes m.lock m.rep), length-append (segment_bytes m.gs) (word_bytes m.word), words m.word, groups m.lock m.rep)
  where
    words : (word : Bool) → length (word_bytes word) ≤ 1
    words true = omega arith
    words false = omega arith

    groups : (lock : Bool) (rep : Rep) → length (group_bytes lock rep) ≤ 1
    groups true rep = omega arith
    groups false Once = omega arith
    groups false F2 = omega arith
    groups false F3 = omega arith

-- ---- least

-- what the one sets the other sets too
pub record Within (m n : Marks) : Type 0 where
  pub word : m.word ≡ true → n.word ≡ true
  pub lock : m.lock ≡ true → n.lock ≡ true
  pub rep : (m.rep ≡ Once) ⊎ (m.rep ≡ n.rep)
  pub gs : m.gs ≡ true → n.gs ≡ true

among_some : (p : List ℕ) (x : ℕ) → is_among p x ≡ true → 0 < length p
among_some [] x h = absurd (cc h)
among_some (y ∷ p) x h = omega arith

either : (a b : Bool) → (a || b) ≡ true → (a ≡ true) ⊎ (b ≡ true)
either true b h = inl refl
either false b h = inr h

-- the byte is one of a list of one byte, and of two
alone : (x y : ℕ) → is_among (y ∷ []) x ≡ true → x ≡ y
alone x y h = elim (either (nat_eq x y) false h) [ inl e ↦ eqb-true x y e | inr e ↦ absurd (cc e) ]

of_two : (x y z : ℕ) → is_among (y ∷ z ∷ []) x ≡ true → (x ≡ y) ⊎ (x ≡ z)
of_two x y z h = elim (either (nat_eq x y) (is_among (z ∷ []) x) h) [ inl e ↦ inl (eqb-true x y e) | inr e ↦ inr (alone x z e) ]

least_none : (p : List ℕ) → Upto [] p
least_none [] = inr (refl, tt)
least_none (y ∷ p) = inl (omega arith)

least_one : (x : ℕ) (p : List ℕ) → is_among p x ≡ true → Upto (x ∷ []) p
least_one x [] h = absurd (cc h)
least_one x (y ∷ []) h = inr (refl, inr (alone x y h, tt))
least_one x (y ∷ z ∷ p) h = inl (omega arith)

least_two : (x y : ℕ) (p : List ℕ) → x < y → is_among p x ≡ true → is_among p y ≡ true → Upto (x ∷ y ∷ []) p
least_two x y [] l h k = absurd (cc h)
least_two x y (a ∷ []) l h k = absurd (omega (arith, alone x a h, alone y a k))
least_two x y (a ∷ b ∷ []) l h k =
    elim (of_two x a b h) [
      | inl p ↦ elim (of_two y a b k) [
        | inl q ↦ absurd (omega arith)
        | inr q ↦ inr (refl, inr (p, inr (q, tt)))
      ]
      | inr p ↦ elim (of_two y a b k) [
        | inl q ↦ inr (refl, inl (omega arith))
        | inr q ↦ absurd (omega arith)
      ]
    ]
least_two x y (a ∷ b ∷ c ∷ p) l h k = inl (omega arith)

of_three : (x a b c : ℕ) → is_among (a ∷ b ∷ c ∷ []) x ≡ true → (x ≡ a) ⊎ ((x ≡ b) ⊎ (x ≡ c))
of_three x a b c h = elim (either (nat_eq x a) (is_among (b ∷ c ∷ []) x) h) [ inl e ↦ inl (eqb-true x a e) | inr e ↦ inr (of_two x b c e) ]

-- two bytes are not three
crowded : (x y z a b : ℕ) → x < y → y < z → (x ≡ a) ⊎ (x ≡ b) → (y ≡ a) ⊎ (y ≡ b) → (z ≡ a) ⊎ (z ≡ b) → ⊥
crowded x y z a b l m (inl p) (inl q) r = omega arith
crowded x y z a b l m (inr p) (inr q) r = omega arith
crowded x y z a b l m (inl p) (inr q) (inl r) = omega arith
crowded x y z a b l m (inl p) (inr q) (inr r) = omega arith
crowded x y z a b l m (inr p) (inl q) (inl r) = omega arith
crowded x y z a b l m (inr p) (inl q) (inr r) = omega arith

among_three : (x y z a b c : ℕ) → x < y → y < z → (x ≡ a) ⊎ ((x ≡ b) ⊎ (x ≡ c)) → (y ≡ a) ⊎ ((y ≡ b) ⊎ (y ≡ c)) → (z ≡ a) ⊎ ((z ≡ b) ⊎ (z ≡ c)) → ByteUpto (x ∷ y ∷ z ∷ []) (a ∷ b ∷ c ∷ [])
among_three x y z a b c l m (inl p) (inl q) r = absurd (omega arith)
among_three x y z a b c l m (inl p) (inr q) (inl r) = absurd (omega arith)
among_three x y z a b c l m (inl p) (inr (inl q)) (inr (inl r)) = absurd (omega arith)
among_three x y z a b c l m (inl p) (inr (inl q)) (inr (inr r)) = inr (p, inr (q, inr (r, tt)))
among_three x y z a b c l m (inl p) (inr (inr q)) (inr (inl r)) = inr (p, inl (omega arith))
among_three x y z a b c l m (inl p) (inr (inr q)) (inr (inr r)) = absurd (omega arith)
among_three x y z a b c l m (inr p) (inl q) r = inl (omega arith)
among_three x y z a b c l m (inr p) (inr q) (inl r) = inl (omega arith)
among_three x y z a b c l m (inr p) (inr q) (inr r) = absurd (crowded x y z b c l m p q r)

least_three : (x y z : ℕ) (p : List ℕ) → x < y → y < z → is_among p x ≡ true → is_among p y ≡ true → is_among p z ≡ true → Upto (x ∷ y ∷ z ∷ []) p
least_three x y z [] l m h k j = absurd (cc h)
least_three x y z (a ∷ []) l m h k j = absurd (omega (arith, alone x a h, alone y a k))
least_three x y z (a ∷ b ∷ []) l m h k j = absurd (crowded x y z a b l m (of_two x a b h) (of_two y a b k) (of_two z a b j))
least_three x y z (a ∷ b ∷ c ∷ []) l m h k j = inr (refl, among_three x y z a b c l m (of_three x a b c h) (of_three y a b c k) (of_three z a b c j))
least_three x y z (a ∷ b ∷ c ∷ d ∷ p) l m h k j = inl (omega arith)

-- what a repeat prefix needs
repeats : (f3 f2 : Bool) → (rep_of f3 f2 ≡ F3 → f3 ≡ true) × (rep_of f3 f2 ≡ F2 → f2 ≡ true)
repeats true f2 = (λ e. refl, λ e. absurd (cc e))
repeats false true = (λ e. absurd (cc e), λ e. refl)
repeats false false = (λ e. absurd (cc e), λ e. absurd (cc e))

least_by : (gs word lock : Bool) (rep : Rep) (p : List ℕ) → (gs ≡ true → is_among p 0x65 ≡ true) → (word ≡ true → is_among p 0x66 ≡ true) → (lock ≡ true → is_among p 0xF0 ≡ true) → (rep ≡ F3 → is_among p 0xF3 ≡ true) → (rep ≡ F2 → is_among p 0xF2 ≡ true) → Upto (segment_bytes gs ++ word_bytes word ++ group_bytes lock rep) p
least_by true true true rep p g w l f3 f2 = least_three 0x65 0x66 0xF0 p (omega arith) (omega arith) (g refl) (w refl) (l refl)
least_by true true false Once p g w l f3 f2 = least_two 0x65 0x66 p (omega arith) (g refl) (w refl)
least_by true true false F3 p g w l f3 f2 = least_three 0x65 0x66 0xF3 p (omega arith) (omega arith) (g refl) (w refl) (f3 refl)
least_by true true false F2 p g w l f3 f2 = least_three 0x65 0x66 0xF2 p (omega arith) (omega arith) (g refl) (w refl) (f2 refl)
least_by true false true rep p g w l f3 f2 = least_two 0x65 0xF0 p (omega arith) (g refl) (l refl)
least_by true false false Once p g w l f3 f2 = least_one 0x65 p (g refl)
least_by true false false F3 p g w l f3 f2 = least_two 0x65 0xF3 p (omega arith) (g refl) (f3 refl)
least_by true false false F2 p g w l f3 f2 = least_two 0x65 0xF2 p (omega arith) (g refl) (f2 refl)
least_by false true true rep p g w l f3 f2 = least_two 0x66 0xF0 p (omega arith) (w refl) (l refl)
least_by false true false Once p g w l f3 f2 = least_one 0x66 p (w refl)
least_by false true false F3 p g w l f3 f2 = least_two 0x66 0xF3 p (omega arith) (w refl) (f3 refl)
least_by false true false F2 p g w l f3 f2 = least_two 0x66 0xF2 p (omega arith) (w refl) (f2 refl)
least_by false false true rep p g w l f3 f2 = least_one 0xF0 p (l refl)
least_by false false false Once p g w l f3 f2 = least_none p
least_by false false false F3 p g w l f3 f2 = least_one 0xF3 p (f3 refl)
least_by false false false F2 p g w l f3 f2 = least_one 0xF2 p (f2 refl)

pub prefixes_least : (m : Marks) (p : List ℕ) → Within m (marks_of p) → Upto (prefix_bytes m) p
prefixes_least m p h =
    let r = repeats (is_among p 0xF3) (is_among p 0xF2) in
    least_by m.gs m.word m.lock m.rep p h.gs h.word h.lock (λ e. elim h.rep [ inl f ↦ absurd (cc (e, f)) | inr f ↦ r.0 (sym f ∙ e) ]) (λ e. elim h.rep [ inl f ↦ absurd (cc (e, f)) | inr f ↦ r.1 (sym f ∙ e) ])
