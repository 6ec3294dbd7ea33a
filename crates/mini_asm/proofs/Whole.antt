-- What a source assembles to, from where its lines stand, what is at fault and what is written.
use Rattle.std.specs.List.{flat_map}
use Rattle.std.proofs.Common.{◌≡◌, ℕ, ◌+◌, ◌<◌, ◌≤◌, List, length, Option, Some, None, sym, ap, ◌∙◌, subst, arith}
use Rattle.elf32_read.specs.CodeImage.{code_base, image_of}
use Rattle.mini_asm.specs.declared.assembling.AsmFault.{AsmFault}
use Rattle.mini_asm.specs.declared.assembling.AsmFault.TheVariants as fault
use Rattle.mini_asm.specs.declared.form.Form.{Form}
use Rattle.mini_asm.specs.declared.listings.Listed.{Listed}
use Rattle.mini_asm.specs.declared.spots.Spot.{Spot}
use Rattle.mini_asm.specs.Faults.{IsFault}
use Rattle.mini_asm.specs.Labels.{first_place}
use Rattle.mini_asm.specs.Reads.{AreGood}
use Rattle.mini_asm.specs.Sources.{IsAssembled}
use Rattle.mini_asm.specs.Spots.{AreSpots, FirstMisfit, Fits, IsMisfit, address_in, total}
use Rattle.mini_asm.specs.Writing.{lines_of}
use Rattle.mini_asm.proofs.Drafting.{Placed, long-map, placed}
use Rattle.mini_asm.proofs.Faulting.{at-fault}
use Rattle.mini_asm.proofs.Faultless.{faultless}
use Rattle.mini_asm.proofs.Rows.{Written, is-written}

-- the number of a line that is at fault
abbrev line_number : AsmFault → ℕ
line_number (fault.Line n) = n
line_number fault.NoMemory = 0

pub named-line : (source : List ℕ) (at n place : ℕ) → at ≡ place + 1 → IsFault source (place + 1) → fault.Line at ≡ fault.Line n → IsFault source n
named-line source at n place is h e = subst (IsFault source) (sym is ∙ ap line_number e) h

-- what is made of a source whose lines are all good, and where nothing is at fault
pub record Finished (source : List ℕ) (lines : List Listed) (code : List ℕ) : Type 0 where
  pub assembled : (image : List ℕ) → image ≡ image_of code → IsAssembled source image lines
  pub some : 0 < length code
  pub most : length code ≤ 1048576
  pub none : (n : ℕ) → IsFault source n → ⊥

module _
    (source : List ℕ) (all forms : List (Option Form)) (made spots : List Spot) (places : List ℕ → Option ℕ) (same : forms ≡ all)
    (spots_are : spots ≡ made) (first : (q : List ℕ) → places q ≡ first_place 0 forms q) (good : AreGood source all)
    (are : AreSpots code_base forms made) where
  there : Placed source forms spots
  there = placed source forms spots (subst (AreGood source) (sym same) good) (subst (AreSpots code_base forms) (sym spots_are) are)

  pub same-length : length forms ≡ length spots
  same-length = ap length there.forms_are ∙ long-map _ there.drafts ∙ sym (ap length there.spots_are ∙ long-map _ there.drafts)

  the-first : places ≡ first_place 0 forms
  the-first = λ i q. first q i

  pub misfit-fault : (place : ℕ) → FirstMisfit (address_in places spots) forms spots (Some place) → IsFault source (place + 1)
  misfit-fault place h = at-fault source forms spots place there (subst (λ p. IsMisfit (address_in p spots) forms spots place) the-first h)

  pub finished :
      (lines listed : List Listed) (code bytes : List ℕ) → FirstMisfit (address_in places spots) forms spots None
      → lines ≡ lines_of (address_in places spots) forms spots → listed ≡ lines → code ≡ flat_map (λ (l : Listed). l.bytes) listed
      → bytes ≡ code → Finished source lines bytes
  finished lines listed code bytes h lines_are listed_are code_is bytes_are =
      let fits = subst (λ p. Fits (address_in p spots) forms spots) the-first h in
      let lines_there = lines_are ∙ ap (λ p. lines_of (address_in p spots) forms spots) the-first in
      let w = subst (λ ls. Written source ls (total spots)) (sym lines_there) (is-written source forms spots there fits) in
      let bytes_there = bytes_are ∙ code_is ∙ ap (flat_map (λ (l : Listed). l.bytes)) listed_are in
      let long = ap length bytes_there ∙ w.long in
      record {
        assembled = λ image is. subst (λ x. IsAssembled source x lines) (sym (is ∙ ap image_of bytes_there)) w.assembled;
        some = omega (arith, long, fits.some);
        most = omega (arith, long, fits.most);
        none = faultless source forms spots there fits;
      }
