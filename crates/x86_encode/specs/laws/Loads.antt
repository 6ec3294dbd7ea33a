-- The operand of each jump or call through an operand can be loaded into EAX, in at most seven bytes, or eight where it is
-- relative to GS: what names it behind FF names it behind 8B too.
use Rattle.std.proofs.Common.{◌≡◌, ℕ, suc, ◌+◌, ◌^◌, ◌≤◌, Bool, true, false, ◌⊎◌, List, [], ◌∷◌, ◌++◌, length, Option, Some, None, refl, sym, ◌∙◌, ap, subst, inl, inr, arith}
use Rattle.std.specs.Prelude.{nat_lt, if◌then◌else◌}
use Rattle.std.proofs.lemmas.List.{length-append}
use Rattle.mv_base.specs.Bytes.{AreBytes}
use Rattle.x86_insn.specs.declared.insn.Insn.{Insn}
use Rattle.x86_insn.specs.declared.insn.Insn.TheVariants as insn
use Rattle.x86_insn.specs.declared.insn.Reg.{Reg}
use Rattle.x86_insn.specs.declared.insn.Reg.TheVariants.{Eax}
use Rattle.x86_insn.specs.declared.insn.Rep.TheVariants.{Once}
use Rattle.x86_insn.specs.declared.insn.Rm.{Rm}
use Rattle.x86_insn.specs.declared.insn.Rm.TheVariants.{R, M}
use Rattle.x86_insn.specs.declared.insn.Width.TheVariants.{D}
use Rattle.x86_insn.specs.declared.row.Lead.TheVariants.{Bare}
use Rattle.x86_insn.specs.declared.row.Layout.TheVariants.{Any}
use Rattle.x86_insn.specs.declared.row.Immediate.TheVariants.{Absent}
use Rattle.x86_insn.specs.declared.row.Size.TheVariants.{Vary}
use Rattle.x86_insn.specs.declared.row.Repeat.TheVariants.{Never}
use Rattle.x86_insn.specs.declared.row.Kind.{Kind}
use Rattle.x86_insn.specs.declared.row.Kind.TheVariants as kind
use Rattle.x86_insn.specs.declared.row.Operands.{Operands}
use Rattle.x86_insn.specs.declared.row.Row.{Row}
use Rattle.x86_insn.specs.Addressing.{reg_field, address_length, rm_of, with_gs}
use Rattle.x86_insn.specs.State.{reg_number}
use Rattle.x86_insn.specs.Meaning.{source_of, meaning}
use Rattle.x86_insn.specs.Prefixes.{marks_of}
use Rattle.x86_insn.specs.Rows.{row}
use Rattle.x86_insn.specs.Spelling.{lead_bytes, has_modrm, immediate_place, addressed, from_modrm, operands_of, Spells}
use Rattle.x86_encode.specs.Order.{Upto}
use Rattle.x86_encode.specs.Encoding.{IsLeast, IsLeastOf}
use Rattle.x86_encode.specs.Address.{dword_bytes, modrm, mode_of, displacement_by, based, index_bits, indexed, indexed_from, memory_bytes, address_bytes}
use Rattle.x86_encode.specs.Assembling.{segment_bytes, both, behind, assembled}
use Rattle.x86_encode.specs.Candidates.{is_gs, operands}
use Rattle.x86_encode.specs.Slots.{full_row}
use Rattle.x86_encode.specs.Least.{least}
use Rattle.x86_encode.specs.laws.Addressed.{address_with, address_named, address_low}
use Rattle.x86_encode.specs.laws.Shortest.{address_least}
use Rattle.x86_encode.specs.laws.Taken.{uses}
use Rattle.x86_encode.specs.laws.Tabled.{AtFull, is_nop, is_named, RowFits, fitted, slot_facts}
use Rattle.x86_encode.specs.laws.Spelt.{without_modrm, row_spells}
use Rattle.x86_encode.specs.laws.Chosen.{bytes_behind, least_of}

-- some bytes with this reg field of ModRM name the operand
abbrev Addressable : ℕ → Rm → Type 0
Addressable field x = (a : List ℕ) × (address_bytes field x ≡ Some a)

-- ModRM's reg field names no part of the operand
memory_again : (f g : ℕ) (b : Option Reg) (x : Option (Reg × ℕ)) (d : ℕ) (s : List ℕ) → memory_bytes f b x d ≡ Some s → (t : List ℕ) × (memory_bytes g b x d ≡ Some t)
memory_again f g None None d s e = (modrm 0 g 5 ∷ dword_bytes d, refl)
memory_again f g None (Some p) d s e = go (index_bits p.0 p.1) e
  where
    go : (o : Option ℕ) → indexed f o d ≡ Some s → (t : List ℕ) × (indexed g o d ≡ Some t)
    go None h = absurd (cc h)
    go (Some bits) h = (modrm 0 g 4 ∷ (bits + 5) ∷ dword_bytes d, refl)
memory_again f g (Some b) None d s e = (based g (reg_number b) d, refl)
memory_again f g (Some b) (Some p) d s e = go (index_bits p.0 p.1) e
  where
    go : (o : Option ℕ) → indexed_from f (reg_number b) o d ≡ Some s → (t : List ℕ) × (indexed_from g (reg_number b) o d ≡ Some t)
    go None h = absurd (cc h)
    go (Some bits) h = (modrm (mode_of d (reg_number b)) g 4 ∷ (bits + reg_number b) ∷ displacement_by (mode_of d (reg_number b)) d, refl)

address_again : (f g : ℕ) (x : Rm) (s : List ℕ) → address_bytes f x ≡ Some s → Addressable g x
address_again f g (R r) s e = (modrm 3 g (reg_number r) ∷ [], refl)
address_again f g (M m) s e = go (nat_lt m.disp (2 ^ 32)) e
  where
    go : (v : Bool) → (if v then memory_bytes f m.base m.index m.disp else None) ≡ Some s → (t : List ℕ) × ((if v then memory_bytes g m.base m.index m.disp else None) ≡ Some t)
    go true h = memory_again f g m.base m.index m.disp s h
    go false h = absurd (cc h)

-- ---- what jumps or calls through an operand names it

abbrev via_operand : Insn → Option Rm
via_operand (insn.JumpVia x) = Some x
via_operand (insn.CallVia x) = Some x
via_operand i = None

record Via (k : Kind) (o : Operands) (x : Rm) : Type 0 where
  used : is_named (uses k).operand ≡ true
  rm : o.rm ≡ x
  no_nop : is_nop k ≡ false

via : (k : Kind) (o : Operands) (x : Rm) → via_operand (meaning k o) ≡ Some x → Via k o x
via kind.JumpVia o x h = record { used = refl; rm = cc h; no_nop = refl }
via kind.CallVia o x h = record { used = refl; rm = cc h; no_nop = refl }
via k o x h = absurd (cc h)

named : (s : List ℕ) (i : Insn) (x : Rm) → Spells s i → via_operand i ≡ Some x → Addressable 0 x
named s i x w h =
    elim (fitted w.row w.listed) [
      | inr n ↦ absurd (cc (n.nop, v.no_nop))
      | inl f ↦ go f (has_modrm w.row.form.layout) refl
    ]
  where
    o : Operands
    o = operands_of w.row.form (marks_of w.prefixes) w.opcode w.operands

    v : Via w.row.form.kind o x
    v = via w.row.form.kind o x (ap via_operand w.means ∙ h)

    go : RowFits w.row → (m : Bool) → has_modrm w.row.form.layout ≡ m → Addressable 0 x
    go f false e =
        let u = uses w.row.form.kind in
        let g = without_modrm w.row.form.layout u.reg u.operand w.row.form.lock w.row.form.digit e f.modrm in
        absurd (cc (g.no_rm, v.used))
    go f true e =
        let from : from_modrm w.row.form w.operands ≡ w.operands = ap (λ (m : Bool). addressed m w.operands) e in
        let place : immediate_place (has_modrm w.row.form.layout) w.operands ≡ address_length w.operands = ap (λ (m : Bool). immediate_place m w.operands) e in
        let bytes : AreBytes w.operands = λ n. bytes_behind (w.prefixes ++ lead_bytes w.row.lead) (w.opcode ∷ w.operands) (subst AreBytes w.parts w.bytes) (suc n) in
        let a = address_least w.operands bytes (omega (arith, w.whole, place)) in
        let gs = (marks_of w.prefixes).gs in
        let same : x ≡ with_gs gs (rm_of w.operands) = sym v.rm ∙ ap (λ (b : List ℕ). with_gs gs (rm_of b)) from in
        address_again (reg_field w.operands) 0 x a.bytes (ap (address_bytes (reg_field w.operands)) same ∙ address_with (reg_field w.operands) gs (rm_of w.operands) ∙ a.made)

-- ---- what is named can be loaded

-- the row of MOV to a register, and its operands
abbrev load_row : Row
load_row = row Bare 0x8B 1 None Any Absent Vary false Never kind.MovRegRm

abbrev load_operands : Rm → Operands
load_operands x = operands D false Once 0 Eax x 0

abbrev load : Rm → Insn
load x = insn.Mov D (R Eax) (source_of x)

load_listed : full_row kind.MovRegRm ≡ Some load_row
unfolding full_row
load_listed = refl

-- 65 stands before what is relative to GS
abbrev made : Bool → List ℕ → List ℕ
made gs a = segment_bytes gs ++ 0x8B ∷ a ++ []

abbrev bound : Bool → ℕ
bound gs = if gs then 8 else 7

memory_assembled : (b : Option Reg) (x : Option (Reg × ℕ)) (d : ℕ) (gs : Bool) (a : List ℕ) → address_bytes 0 (M (record { base = b; index = x; disp = d; gs = gs })) ≡ Some a → assembled load_row (load_operands (M (record { base = b; index = x; disp = d; gs = gs }))) ≡ Some (made gs a)
unfolding assembled
memory_assembled b x d true a e = ap (λ (o : Option (List ℕ)). behind (0x65 ∷ 0x8B ∷ []) (both o (Some []))) e
memory_assembled b x d false a e = ap (λ (o : Option (List ℕ)). behind (0x8B ∷ []) (both o (Some []))) e

load_assembled : (x : Rm) (a : List ℕ) → address_bytes 0 x ≡ Some a → assembled load_row (load_operands x) ≡ Some (made (is_gs x) a)
unfolding assembled
load_assembled (R r) a e = ap (λ (o : Option (List ℕ)). behind (0x8B ∷ []) (both o (Some []))) e
load_assembled (M m) a e = memory_assembled m.base m.index m.disp m.gs a e

load_spells : (x : Rm) (a : List ℕ) → address_bytes 0 x ≡ Some a → Spells (made (is_gs x) a) (load x)
load_spells x a e =
    let f = slot_facts AtFull kind.MovRegRm load_row load_listed in
    row_spells load_row (load_operands x) (made (is_gs x) a) (load x) f.listed f.fits (load_assembled x a e) refl refl

no_longer : (s t : List ℕ) → Upto s t → length s ≤ length t
no_longer s t h = elim h [ inl p ↦ omega arith | inr p ↦ let q = p.0 in omega arith ]

abbrev Loads : Rm → Type 0
Loads x = (s : List ℕ) × (least (load x) ≡ Some s) × IsLeast (load x) s × (length s ≤ bound (is_gs x))

loaded : (x : Rm) (a : List ℕ) → address_bytes 0 x ≡ Some a → Loads x
loaded x a e = go (least (load x)) refl (least_of (load x))
  where
    sized : (gs : Bool) → length (made gs a) ≤ bound gs
    sized true = let n = address_named 0 x a (omega arith) e in omega (arith, n.size, address_low a, length-append a [])
    sized false = let n = address_named 0 x a (omega arith) e in omega (arith, n.size, address_low a, length-append a [])

    go : (o : Option (List ℕ)) → least (load x) ≡ o → IsLeastOf (load x) o → Loads x
    go None q h = absurd (h (made (is_gs x) a) (load_spells x a e))
    go (Some s) q h = (s, q, h, omega (arith, sized (is_gs x), no_longer s (made (is_gs x) a) (h.least (made (is_gs x) a) (load_spells x a e))))

-- what some bytes jump or call through, MOV loads into EAX, in at most 7 bytes, or 8
pub operand_loads : (s : List ℕ) (operand : Rm) → (Spells s (insn.JumpVia operand) ⊎ Spells s (insn.CallVia operand)) → (load : List ℕ) × (least (insn.Mov D (R Eax) (source_of operand)) ≡ Some load) × IsLeast (insn.Mov D (R Eax) (source_of operand)) load × (length load ≤ (if is_gs operand then 8 else 7))
operand_loads s operand h =
    elim h [
      | inl w ↦ let n = named s (insn.JumpVia operand) operand w refl in loaded operand n.0 n.1
      | inr w ↦ let n = named s (insn.CallVia operand) operand w refl in loaded operand n.0 n.1
    ]
