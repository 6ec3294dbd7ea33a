-- The first fault of a file, test by test.
use Rattle.std.proofs.Common.{◌≡◌, ℕ, Bool, not, List, length, Option, Some, None, ap, sym, ◌∙◌}
use Rattle.std.specs.List.{list_any}
use Rattle.elf32_read.specs.declared.fault.ImageFault.{ImageFault}
use Rattle.elf32_read.specs.declared.fault.ImageFault.TheVariants.{NoLoad}
use Rattle.elf32_read.specs.declared.image.Phdr.{Phdr}
use Rattle.elf32_read.specs.Fields.{headers, is_load}
use Rattle.elf32_read.specs.Faults.{fault_if, head_fault, headers_fault, load_refusal}

-- the ELF header has a fault
pub in_head : (b : List ℕ) (found : Option ImageFault) (f : ImageFault) → found ≡ head_fault b → found ≡ Some f → load_refusal b ≡ Some f
unfolding load_refusal
in_head b found f is finds = rw (sym is ∙ finds)

-- a program header has a fault
pub in_headers : (b : List ℕ) (hs : List Phdr) (first found : Option ImageFault) (f : ImageFault)
    → first ≡ head_fault b → first ≡ None → hs ≡ headers b → found ≡ headers_fault (length b) 0 0 hs → found ≡ Some f → load_refusal b ≡ Some f
unfolding load_refusal
in_headers b hs first found f is none lists finds some =
    rw (sym is ∙ none, ap (headers_fault (length b) 0 0) (sym lists) ∙ sym finds ∙ some)

-- what is left where neither has a fault
pub after_headers : (b : List ℕ) (hs : List Phdr) (first found : Option ImageFault) (load : Bool)
    → first ≡ head_fault b → first ≡ None → hs ≡ headers b → found ≡ headers_fault (length b) 0 0 hs → found ≡ None → load ≡ list_any is_load hs
    → load_refusal b ≡ fault_if (not load) NoLoad
unfolding load_refusal
after_headers b hs first found load is none lists finds none' loads =
    rw (sym is ∙ none, ap (headers_fault (length b) 0 0) (sym lists) ∙ sym finds ∙ none', ap (list_any is_load) (sym lists) ∙ sym loads)
