-- Steps along the table of program headers.
use Rattle.std.proofs.Common.{◌≡◌, ℕ, ◌+◌, ◌*◌, ◌<◌, ◌≤◌, List, [], ◌∷◌, ◌++◌, length, map, take, drop, get_or, Option, Some, None, option_to_list, refl, ap, sym, zero-add, ◌∙◌}
use Rattle.std.specs.List.{range_with_len, filter_map, cons_option}
use Rattle.std.proofs.lemmas.List.{at_drop_more, at_drop_all, take_more}
use Rattle.std.proofs.lemmas.List.Elements.{filter_map-append}
use Rattle.std.proofs.lemmas.List.FromFn.{map-range_with_len_more}
use Rattle.elf32_read.specs.declared.fault.ImageFault.{ImageFault}
use Rattle.elf32_read.specs.declared.image.Phdr.{Phdr}
use Rattle.elf32_read.specs.declared.image.Segment.{Segment}
use Rattle.elf32_read.specs.Fields.{header_at, header_offset, segment_of}
use Rattle.elf32_read.specs.Faults.{or_else, header_fault, free_after, headers_fault}

-- the first program headers of a file
unfoldable pub headers_until : List ℕ → ℕ → List Phdr
headers_until b n = map (λ i. header_at b (header_offset b + 32 * i)) (range_with_len 0 n)

-- one more of them
pub headers_until-more : (b : List ℕ) (n : ℕ) → headers_until b (n + 1) ≡ headers_until b n ++ header_at b (header_offset b + 32 * n) ∷ []
unfolding headers_until
headers_until-more b n = map-range_with_len_more (λ i. header_at b (header_offset b + 32 * i)) 0 n n (zero-add n)

-- the first fault of the headers left, by the next of them
headers_fault-more : (len free i : ℕ) (hs : List Phdr) (d : Phdr) → i < length hs
    → headers_fault len free i (drop i hs) ≡ or_else (header_fault len free i (get_or hs i d)) (headers_fault len (free_after free (get_or hs i d)) (i + 1) (drop (i + 1) hs))
unfolding headers_fault
headers_fault-more len free i hs d below = at_drop_more (headers_fault len free i) hs i d below

-- the next header has the first fault
pub first_fault : (len free i : ℕ) (hs : List Phdr) (d : Phdr) (whole found : Option ImageFault) (f : ImageFault) → i < length hs
    → whole ≡ headers_fault len free i (drop i hs) → found ≡ header_fault len free i (get_or hs i d) → found ≡ Some f → Some f ≡ whole
first_fault len free i hs d whole found f below left is finds =
    sym (left ∙ headers_fault-more len free i hs d below
    ∙ ap (λ x. or_else x (headers_fault len (free_after free (get_or hs i d)) (i + 1) (drop (i + 1) hs))) (sym is ∙ finds))

-- the next header has no fault
pub later_fault : (len free i : ℕ) (hs : List Phdr) (d : Phdr) (whole found : Option ImageFault) (next : ℕ) → i < length hs
    → whole ≡ headers_fault len free i (drop i hs) → found ≡ header_fault len free i (get_or hs i d) → found ≡ None → next ≡ free_after free (get_or hs i d)
    → whole ≡ headers_fault len next (i + 1) (drop (i + 1) hs)
later_fault len free i hs d whole found next below left is none after =
    left ∙ headers_fault-more len free i hs d below
    ∙ ap (λ x. or_else x (headers_fault len (free_after free (get_or hs i d)) (i + 1) (drop (i + 1) hs))) (sym is ∙ none)
    ∙ ap (λ n. headers_fault len n (i + 1) (drop (i + 1) hs)) (sym after)

-- no header is left
pub no_fault : (len free i : ℕ) (hs : List Phdr) (whole : Option ImageFault) → length hs ≤ i
    → whole ≡ headers_fault len free i (drop i hs) → None ≡ whole
unfolding headers_fault
no_fault len free i hs whole past left = sym (left ∙ at_drop_all (headers_fault len free i) hs i past)

-- the segment of the next header joins those before it
pub segments-more : (hs : List Phdr) (i : ℕ) (d : Phdr) (before now : List Segment) (found : Option Segment) → i < length hs
    → before ≡ filter_map segment_of (take i hs) → found ≡ segment_of (get_or hs i d) → now ≡ before ++ option_to_list found
    → now ≡ filter_map segment_of (take (i + 1) hs)
segments-more hs i d before now found below so_far is adds =
    adds ∙ ap (λ x. x ++ option_to_list found) so_far
    ∙ ap (λ o. filter_map segment_of (take i hs) ++ option_to_list o) is
    ∙ sym (ap (filter_map segment_of) (take_more hs i d below) ∙ filter_map-append segment_of (take i hs) (get_or hs i d ∷ []) ∙ ap (λ x. filter_map segment_of (take i hs) ++ x) (alone (segment_of (get_or hs i d))))
  where
    alone : (o : Option Segment) → cons_option o [] ≡ option_to_list o
    alone (Some s) = refl
    alone None = refl
