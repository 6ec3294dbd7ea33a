-- The image of the flags: POPFD of what PUSHFD pushed sets the flags that it pushed. One test over all flags, computed.
use Rattle.std.proofs.Common.{◌≡◌, ℕ, ◌^◌, ◌<◌, ◌≤◌, Bool, true, false, not, ◌&&◌, None, if◌then◌else◌, refl, sym, ap, ◌∙◌, arith}
use Rattle.std.proofs.lemmas.Bool.{true≢false}
use Rattle.x86_insn.specs.declared.flags.Flags.{Flags}
use Rattle.x86_insn.specs.declared.registers.Core.{Core}
use Rattle.x86_insn.specs.declared.ask.Ask.{Ask}
use Rattle.x86_insn.specs.declared.ask.Ask.TheVariants.{Halts, Ends}
use Rattle.x86_insn.specs.declared.stop.Stop.TheVariants.{Outside}
use Rattle.x86_insn.specs.Agreeing.{both_true}
use Rattle.x86_insn.specs.Flags.{flag_image, bit}
use Rattle.x86_insn.specs.Operands.{set_flags}
use Rattle.x86_insn.specs.Moves.{risen, flags_of_image, sets_other_flags, popfd_end}

bit_below : (t : Bool) (v : ℕ) → bit t v ≤ v
bit_below true v = omega arith
bit_below false v = omega arith

pub image_low : (f : Flags) → flag_image f < 2 ^ 32
image_low f =
    omega (arith, bit_below f.cf 0x1, bit_below f.pf 0x4, bit_below f.af 0x10, bit_below f.zf 0x40, bit_below f.sf 0x80, bit_below f.df 0x400, bit_below f.of 0x800, bit_below f.id 0x200000)

-- ---- the test

abbrev same : Bool → Bool → Bool
same a b = if a then b else not b

same_is : (a b : Bool) → same a b ≡ true → a ≡ b
same_is true true h = refl
same_is true false h = absurd (true≢false (sym h))
same_is false true h = absurd (true≢false (sym h))
same_is false false h = refl

abbrev same_flags : Flags → Flags → Bool
same_flags f g =
    same f.cf g.cf && (same f.pf g.pf && (same f.af g.af && (same f.zf g.zf && (same f.sf g.sf && (same f.df g.df && (same f.of g.of && same f.id g.id))))))

same_flags_is : (f g : Flags) → same_flags f g ≡ true → f ≡ g
same_flags_is f g h =
    let a = both_true _ _ h in
    let b = both_true _ _ a.1 in
    let c = both_true _ _ b.1 in
    let d = both_true _ _ c.1 in
    let e = both_true _ _ d.1 in
    let i = both_true _ _ e.1 in
    let j = both_true _ _ i.1 in
    λ t. record {
      cf = same_is f.cf g.cf a.0 t;
      pf = same_is f.pf g.pf b.0 t;
      af = same_is f.af g.af c.0 t;
      zf = same_is f.zf g.zf d.0 t;
      sf = same_is f.sf g.sf e.0 t;
      df = same_is f.df g.df i.0 t;
      of = same_is f.of g.of j.0 t;
      id = same_is f.id g.id j.1 t;
    }

abbrev comes_back : Flags → Bool
comes_back f = not (sets_other_flags (flag_image f)) && same_flags (flags_of_image (flag_image f)) f

abbrev both : (Bool → Bool) → Bool
both f = f true && f false

each : (f : Bool → Bool) → both f ≡ true → (b : Bool) → f b ≡ true
each f h true = (both_true (f true) (f false) h).0
each f h false = (both_true (f true) (f false) h).1

abbrev of_bits : Bool → Bool → Bool → Bool → Bool → Bool → Bool → Bool → Flags
of_bits cf pf af zf sf df of id = record { cf = cf; pf = pf; af = af; zf = zf; sf = sf; df = df; of = of; id = id }

-- all flags with these first ones come back
abbrev from_seven : Bool → Bool → Bool → Bool → Bool → Bool → Bool → Bool
from_seven cf pf af zf sf df of = both (λ id. comes_back (of_bits cf pf af zf sf df of id))

abbrev from_six : Bool → Bool → Bool → Bool → Bool → Bool → Bool
from_six cf pf af zf sf df = both (from_seven cf pf af zf sf df)

abbrev from_five : Bool → Bool → Bool → Bool → Bool → Bool
from_five cf pf af zf sf = both (from_six cf pf af zf sf)

abbrev from_four : Bool → Bool → Bool → Bool → Bool
from_four cf pf af zf = both (from_five cf pf af zf)

abbrev from_three : Bool → Bool → Bool → Bool
from_three cf pf af = both (from_four cf pf af)

abbrev from_two : Bool → Bool → Bool
from_two cf pf = both (from_three cf pf)

abbrev from_one : Bool → Bool
from_one cf = both (from_two cf)

all_come_back : both from_one ≡ true
all_come_back = refl

image_test : (f : Flags) → comes_back f ≡ true
image_test f =
    let t1 = each from_one all_come_back f.cf in
    let t2 = each (from_two f.cf) t1 f.pf in
    let t3 = each (from_three f.cf f.pf) t2 f.af in
    let t4 = each (from_four f.cf f.pf f.af) t3 f.zf in
    let t5 = each (from_five f.cf f.pf f.af f.zf) t4 f.sf in
    let t6 = each (from_six f.cf f.pf f.af f.zf f.sf) t5 f.df in
    let t7 = each (from_seven f.cf f.pf f.af f.zf f.sf f.df) t6 f.of in
    each (λ id. comes_back (of_bits f.cf f.pf f.af f.zf f.sf f.df f.of id)) t7 f.id

-- ---- POPFD

pub image_back : (f : Flags) (c : Core) → popfd_end (flag_image f) c ≡ Ends (set_flags f (risen 4 c)) None false
image_back f c =
    let w = both_true (not (sets_other_flags (flag_image f))) (same_flags (flags_of_image (flag_image f)) f) (image_test f) in
    let none : sets_other_flags (flag_image f) ≡ false = cleared (sets_other_flags (flag_image f)) w.0 in
    let end : Ask Bool = Ends (set_flags (flags_of_image (flag_image f)) (risen 4 c)) None false in
    ap (λ (t : Bool). if t then Halts Outside else end) none ∙ ap (λ (g : Flags). Ends (set_flags g (risen 4 c)) None false) (same_flags_is (flags_of_image (flag_image f)) f w.1)
  where
    cleared : (t : Bool) → not t ≡ true → t ≡ false
    cleared true h = absurd (true≢false (sym h))
    cleared false h = refl
