-- Where nothing is at fault, no line is, and at most one line is at fault.
use Rattle.std.proofs.Common.{ℕ, suc, List, [], map, Option, subst, arith}
use Rattle.elf32_read.specs.CodeImage.{code_base}
use Rattle.mini_asm.specs.declared.form.Form.{Form}
use Rattle.mini_asm.specs.declared.spots.Spot.{Spot}
use Rattle.mini_asm.specs.Faults.{AreDrafts, Draft, EndsPast, HasNoCode, IsBad, IsFarAt, IsFault, IsSplit}
use Rattle.mini_asm.specs.Faults.IsFault.{BadLine, FarLoop, NoCode, TooLong}
use Rattle.mini_asm.specs.Labels.{first_place}
use Rattle.mini_asm.specs.Spots.{Fits, address_in}
use Rattle.mini_asm.proofs.Drafting.{Placed, line_of, long-map, says_of, spot_of}
use Rattle.mini_asm.proofs.Faulting.{addresses, below-all, ends, far-spot, no-bytes}
use Rattle.mini_asm.proofs.Unique.{one-drafts, one-split}

-- lines that are all good have no bad one among them
pub none-bad : (source : List ℕ) (drafts : List Draft) (lines : List (List ℕ)) (rest : List ℕ) (k : ℕ) → AreDrafts source drafts → IsSplit source lines rest → IsBad lines rest k → ⊥
none-bad source drafts lines rest k are split bad =
    let same = one-split source lines (map line_of drafts) rest [] split are.split in
    let moved = subst (λ (r : List ℕ). IsBad (map line_of drafts) r k) same.1 (subst (λ ls. IsBad ls rest k) same.0 bad) in
    moved.1 (are.good k (omega (arith, moved.0, long-map line_of drafts)))

module _ (source : List ℕ) (drafts : List Draft) (are : AreDrafts source drafts) (fits : Fits (addresses source drafts are) (map says_of drafts) (map spot_of drafts)) where
  no-fault : (n : ℕ) → IsFault source n → ⊥
  no-fault _ (BadLine lines rest k split first) = none-bad source drafts lines rest k are split first.holds
  no-fault _ (FarLoop others k them first) = fits.near k (far-spot source drafts are k (subst (λ ds. IsFarAt ds k) (one-drafts source others drafts them are) first.holds))
  no-fault _ (TooLong others k them near first) =
      let past = subst (λ ds. EndsPast ds k) (one-drafts source others drafts them are) first.holds in
      let e = ends code_base drafts k past.0 are.follow past.1 in
      let all = below-all (map spot_of drafts) (suc k) in
      absurd (omega (arith, e, all, fits.most, past.2))
  no-fault _ (NoCode others them near none) =
      let e = no-bytes drafts (subst HasNoCode (one-drafts source others drafts them are) none) in
      absurd (omega (arith, e, fits.some))

pub faultless : (source : List ℕ) (forms : List (Option Form)) (spots : List Spot) → Placed source forms spots → Fits (address_in (first_place 0 forms) spots) forms spots → (n : ℕ) → IsFault source n → ⊥
faultless source forms spots p h =
    no-fault source p.drafts p.are
    (subst (λ ss. Fits (address_in (first_place 0 (map says_of p.drafts)) ss) (map says_of p.drafts) ss) p.spots_are
    (subst (λ fs. Fits (address_in (first_place 0 fs) spots) fs spots) p.forms_are h))
