-- The sites that are found in an image, and those of its file.
use Rattle.std.proofs.Common.{◌≡◌, ℕ, List, Option, Some, None, Result, Ok, Err, IsErrAnd, sym, ap, ◌∙◌, subst}
use Rattle.elf32_read.specs.declared.fault.ImageFault.{ImageFault}
use Rattle.elf32_read.specs.declared.image.Image.{Image}
use Rattle.elf32_read.specs.declared.reader.ReadImage.{ReadImage}
use Rattle.elf32_read.specs.declared.reader.ReadImage.TheVariants.{Bad, NoMemory}
use Rattle.elf32_read.specs.declared.run.Run.{Run}
use Rattle.elf32_read.specs.Faults.{or_else, load_refusal, limit_fault, refusal}
use Rattle.elf32_read.specs.Limits.{exceeded, exceeded-image}
use Rattle.elf32_read.specs.Reading.{IsImage, IsRead}
use Rattle.elf32_read.specs.Runs.{runs_of, code_of}
use Rattle.elf32_read.specs.Segments.{code_of-runs_of}
use Rattle.superset.specs.Sites.{sites_in}
use Rattle.mv_rewrite.specs.Sites.{code_in, sites}
use Rattle.multiverse_cli.specs.declared.failure.Objection.{Objection}
use Rattle.multiverse_cli.specs.declared.listing.Listing.{Listing}
use Rattle.multiverse_cli.specs.declared.verdict.Delivery.{Delivery as OwnDelivery}
use Rattle.multiverse_cli.specs.Commands.{IsNotListed, IsListing}
use Rattle.multiverse_cli.specs.Failures.{unread_image, not_admitted}
use Rattle.multiverse_cli.specs.Listing.{listing, listing_of, site_lines}
use Rattle.multiverse_cli.specs.Verdicts.{IsVerdictOf}

-- ---- faults

-- an image within the limits has a file within them
pub admitted : (b : List ℕ) (image : Image) → IsImage b image → exceeded image ≡ None → limit_fault b ≡ None
admitted b image is e = sym (exceeded-image b image is) ∙ e

pub no-refusal : (b : List ℕ) → load_refusal b ≡ None → limit_fault b ≡ None → refusal b ≡ None
unfolding refusal
no-refusal b whole within = ap (λ (o : Option ImageFault). or_else o (limit_fault b)) whole ∙ within

-- the first fault of a file that isn't read, and of one that exceeds a limit
refused-first : (b : List ℕ) (f : ImageFault) → load_refusal b ≡ Some f → refusal b ≡ Some f
unfolding refusal
refused-first b f e = ap (λ (o : Option ImageFault). or_else o (limit_fault b)) e

refused-last : (b : List ℕ) (image : Image) (f : ImageFault) → IsImage b image → exceeded image ≡ Some f → refusal b ≡ Some f
unfolding refusal
refused-last b image f is e =
    ap (λ (o : Option ImageFault). or_else o (limit_fault b)) is.whole ∙ sym (exceeded-image b image is) ∙ e

module _ (b : List ℕ) where
  abbrev NotListed : Result OwnDelivery Objection → Type 0
  NotListed r = IsVerdictOf (IsNotListed b) (IsListing b) r

  -- an objection that was passed on is the verdict
  passed-on : (r : Result OwnDelivery Objection) (o : Objection) → IsErrAnd r (λ x. x ≡ o) → NotListed (Err o) → NotListed r
  passed-on (Ok d) o is h = absurd is
  passed-on (Err x) o is h = let P : Objection → Type 0 = λ y. NotListed (Err y) in subst P (sym is) h

  pub not-read : (e : ReadImage) (r : Result OwnDelivery Objection) → IsRead b (Err e) → IsErrAnd r (λ o. o ≡ unread_image e) → NotListed r
  not-read (Bad f) r h is = passed-on r (unread_image (Bad f)) is (refused-first b f h)
  not-read NoMemory r h is = passed-on r (unread_image NoMemory) is tt

  pub not-within :
      (image : Image) (f : ImageFault) (r : Result OwnDelivery Objection) → IsImage b image → exceeded image ≡ Some f
      → IsErrAnd r (λ o. o ≡ not_admitted f) → NotListed r
  not-within image f r whole e is = passed-on r (not_admitted f) is (refused-last b image f whole e)

-- ---- sites

-- the executable bytes of a file are those of its runs
code-are : (b : List ℕ) → load_refusal b ≡ None → code_in b ≡ code_of (runs_of b)
code-are b whole = λ i a. code_of-runs_of b whole a i

pub sites-of-runs : (b : List ℕ) → load_refusal b ≡ None → sites b ≡ sites_in (code_of (runs_of b)) (runs_of b)
unfolding sites
sites-of-runs b whole = ap (λ (c : ℕ → Option ℕ). sites_in c (runs_of b)) (code-are b whole)

-- the lines of the sites that were found in a file's runs are the file's listing
pub found-listing :
    (b : List ℕ) (l : Listing) → load_refusal b ≡ None → l.runs.items ≡ runs_of b
    → l.sites.items ≡ sites_in (code_of l.runs.items) l.runs.items → listing_of l ≡ listing b
found-listing b l whole runs found =
    let code : code_of l.runs.items ≡ code_in b = ap code_of runs ∙ sym (code-are b whole) in
    let same : l.sites.items ≡ sites b =
    found ∙ (ap (λ (rs : List Run). sites_in (code_of rs) rs) runs ∙ sym (sites-of-runs b whole)) in
    λ i. site_lines (code i) (same i)
