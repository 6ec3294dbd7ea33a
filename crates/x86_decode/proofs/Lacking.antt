-- How many bytes are lacking where an opcode byte is missing, by the prefixes.
use Rattle.std.proofs.Common.{◌≡◌, ℕ, Bool, true, false, ◌&&◌, ◌||◌, List, [], ◌∷◌, refl, sym, ◌∙◌, ap}
use Rattle.std.specs.Prelude.{nat_eq}
use Rattle.std.proofs.lemmas.Bool.{eqb-true}
use Rattle.x86_insn.specs.declared.insn.Rep.{Rep}
use Rattle.x86_insn.specs.declared.insn.Rep.TheVariants.{Once, F3, F2}
use Rattle.x86_insn.specs.declared.row.Marks.{Marks}
use Rattle.x86_insn.specs.Agreeing.{both_true}
use Rattle.x86_insn.specs.Rows.{rows}
use Rattle.x86_insn.specs.Spelling.{asks_memory}
use Rattle.x86_insn.specs.Scanning.{Scan, Found, More, Nothing}
use Rattle.x86_decode.specs.Candidates.{rows_behind, scan_rest}

-- ---- a test of all marks

abbrev both : (Bool → Bool) → Bool
both f = f true && f false

abbrev of_each_rep : (Rep → Bool) → Bool
of_each_rep f = f Once && f F3 && f F2

abbrev of_each : (Bool → Bool → Bool → Rep → Bool) → Bool
of_each f = both (λ (word : Bool). both (λ (lock : Bool). both (λ (gs : Bool). of_each_rep (f word lock gs))))

both_at : (f : Bool → Bool) → both f ≡ true → (b : Bool) → f b ≡ true
both_at f h true = (both_true (f true) (f false) h).0
both_at f h false = (both_true (f true) (f false) h).1

rep_at : (f : Rep → Bool) → of_each_rep f ≡ true → (r : Rep) → f r ≡ true
rep_at f h r =
    let w = both_true (f Once && f F3) (f F2) h in
    let v = both_true (f Once) (f F3) w.0 in
    elim r as (λ r. f r ≡ true) [ Once ↦ v.0 | F3 ↦ v.1 | F2 ↦ w.1 ]

each_at : (f : Bool → Bool → Bool → Rep → Bool) → of_each f ≡ true → (m : Marks) → f m.word m.lock m.gs m.rep ≡ true
each_at f h m =
    let w = both_at (λ (x : Bool). both (λ (y : Bool). both (λ (z : Bool). of_each_rep (f x y z)))) h m.word in
    let l = both_at (λ (y : Bool). both (λ (z : Bool). of_each_rep (f m.word y z))) w m.lock in
    let g = both_at (λ (z : Bool). of_each_rep (f m.word m.lock z)) l m.gs in
    rep_at (f m.word m.lock m.gs) g m.rep

-- ---- what is lacking, by the repeat prefix, whether the prefixes ask for memory, and whether 66 stands

abbrev lack_same : Scan → Scan → Bool
lack_same (More n) (More m) = nat_eq n m
lack_same Nothing Nothing = true
lack_same a b = false

lack_is : (a b : Scan) → lack_same a b ≡ true → a ≡ b
lack_is (Found i n) b h = absurd (cc h)
lack_is (More n) (Found i m) h = absurd (cc h)
lack_is (More n) (More m) h = ap More (eqb-true n m h)
lack_is (More n) Nothing h = absurd (cc h)
lack_is Nothing (Found i m) h = absurd (cc h)
lack_is Nothing (More m) h = absurd (cc h)
lack_is Nothing Nothing h = refl

abbrev lacks_at : List ℕ → (Rep → Bool → Bool → Scan) → Bool → Bool → Bool → Rep → Bool
lacks_at lead f word lock gs r = lack_same (scan_rest (rows_behind lead) (record { word = word; lock = lock; rep = r; gs = gs }) []) (f r (lock || gs) word)

lacks_is : (lead : List ℕ) (f : Rep → Bool → Bool → Scan) → of_each (lacks_at lead f) ≡ true → (m : Marks) (asks : Bool) → asks ≡ asks_memory m → scan_rest (rows_behind lead) m [] ≡ f m.rep asks m.word
lacks_is lead f h m asks e = lack_is _ _ (each_at (lacks_at lead f) h m) ∙ ap (λ (v : Bool). f m.rep v m.word) (sym e)

-- behind the prefixes
abbrev pub opcode_lacks : Bool → Rep → Scan
opcode_lacks false r = More 1
opcode_lacks true Once = More 2
opcode_lacks true F3 = Nothing
opcode_lacks true F2 = Nothing

pub lacks_opcode_is : (m : Marks) (asks : Bool) → asks ≡ asks_memory m → scan_rest (rows_behind []) m [] ≡ opcode_lacks asks m.rep
lacks_opcode_is m asks e = lacks_is [] (λ (r : Rep) (a word : Bool). opcode_lacks a r) (unfold rows_behind rows in refl) m asks e

-- behind 0F
abbrev pub escaped_lacks : Rep → Bool → Bool → Scan
escaped_lacks Once false false = More 1
escaped_lacks Once false true = More 2
escaped_lacks Once true word = More 2
escaped_lacks F3 false false = More 2
escaped_lacks F3 false true = Nothing
escaped_lacks F3 true word = Nothing
escaped_lacks F2 asks word = Nothing

pub lacks_escaped_is : (m : Marks) (asks : Bool) → asks ≡ asks_memory m → scan_rest (rows_behind (0x0F ∷ [])) m [] ≡ escaped_lacks m.rep asks m.word
lacks_escaped_is m asks e = lacks_is (0x0F ∷ []) escaped_lacks (unfold rows_behind rows in refl) m asks e

-- behind CD, and behind 0F 1E
abbrev pub only_with : Rep → Rep → Bool → Bool → Scan
only_with Once Once false false = More 1
only_with Once Once false true = Nothing
only_with Once Once true word = Nothing
only_with Once F3 asks word = Nothing
only_with Once F2 asks word = Nothing
only_with F3 F3 false false = More 1
only_with F3 F3 false true = Nothing
only_with F3 F3 true word = Nothing
only_with F3 Once asks word = Nothing
only_with F3 F2 asks word = Nothing
only_with F2 r asks word = Nothing

pub lacks_number_is : (m : Marks) (asks : Bool) → asks ≡ asks_memory m → scan_rest (rows_behind (0xCD ∷ [])) m [] ≡ only_with Once m.rep asks m.word
lacks_number_is m asks e = lacks_is (0xCD ∷ []) (only_with Once) (unfold rows_behind rows in refl) m asks e

pub lacks_hint_is : (m : Marks) (asks : Bool) → asks ≡ asks_memory m → scan_rest (rows_behind (0x0F ∷ 0x1E ∷ [])) m [] ≡ only_with F3 m.rep asks m.word
lacks_hint_is m asks e = lacks_is (0x0F ∷ 0x1E ∷ []) (only_with F3) (unfold rows_behind rows in refl) m asks e

pub at_marks : (f : Rep → Bool → Bool → Scan) (r r' : Rep) (a a' w w' : Bool) → r ≡ r' → a ≡ a' → w ≡ w' → f r a w ≡ f r' a' w'
at_marks f r r' a a' w w' p q e = cc

pub not_plain : (r : Rep) (a w : Bool) → (r ≡ Once → ⊥) → only_with Once r a w ≡ Nothing
not_plain Once a w h = absurd (h refl)
not_plain F3 a w h = refl
not_plain F2 a w h = refl

pub not_repeated : (r : Rep) (a w : Bool) → (r ≡ F3 → ⊥) → only_with F3 r a w ≡ Nothing
not_repeated Once a w h = refl
not_repeated F3 a w h = absurd (h refl)
not_repeated F2 a w h = refl
