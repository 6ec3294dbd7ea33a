-- Spans among links to which more are appended.
use Rattle.std.proofs.Common.{◌≡◌, ℕ, ◌+◌, ◌≤◌, List, [], ◌∷◌, ◌++◌, length, take, drop, map, refl, sym, ap, ◌∙◌, subst, arith}
use Rattle.std.specs.List.{AllByRecursion}
use Rattle.std.proofs.Math.Seq.{drop-append_seam}
use Rattle.std.proofs.lemmas.List.{drop-append-le, take-append-le, take_all, length-append, length-drop, map-append}
use Rattle.sequence_join.specs.declared.chain.Span.{Span}
use Rattle.sequence_join.specs.Chains.{Chain}
use Rattle.sequence_join.specs.Spans.{chain_in, IsWithin}
use Rattle.sequence_join.specs.Walking.{IsSpanOf}

-- a chain stays where it is
kept : (links more : List ℕ) (s : Span) → IsWithin (length links) s → chain_in (links ++ more) s ≡ chain_in links s
kept links more s in_links =
    let rest = drop s.from links in
    let low : s.from ≤ length links = omega (arith, in_links.within) in
    let few : s.len ≤ length rest = omega (arith, in_links.within, length-drop s.from links) in
    let same : take s.len (drop s.from (links ++ more)) ≡ take s.len rest = ap (take s.len) (drop-append-le s.from links more low) ∙ take-append-le s.len rest more few in
    ap (λ (ks : List ℕ). record { links = ks; next = s.next }) same

all_kept : (links more : List ℕ) (ss : List Span) → AllByRecursion (IsWithin (length links)) ss → map (chain_in (links ++ more)) ss ≡ map (chain_in links) ss
all_kept links more [] h = refl
all_kept links more (s ∷ ss) h =
    ap (λ (c : Chain). c ∷ map (chain_in (links ++ more)) ss) (kept links more s h.0) ∙ ap (λ (cs : List Chain). chain_in links s ∷ cs) (all_kept links more ss h.1)

-- the chain of the links that were appended
last : (links : List ℕ) (c : Chain) (s : Span) → IsSpanOf (length links) c s → chain_in (links ++ c.links) s ≡ c
last links c s is =
    let there : drop s.from (links ++ c.links) ≡ c.links = ap (λ n. drop n (links ++ c.links)) is.from ∙ drop-append_seam links c.links in
    let whole : take s.len (drop s.from (links ++ c.links)) ≡ c.links = ap (take s.len) there ∙ take_all s.len c.links (omega (arith, is.len)) in
    λ i. record { links = whole i; next = is.next i }

-- one chain more
pub one_more : (links new : List ℕ) (ss now : List Span) (c : Chain) (s : Span) → AllByRecursion (IsWithin (length links)) ss → new ≡ links ++ c.links → now ≡ ss ++ s ∷ [] → IsSpanOf (length links) c s → map (chain_in new) now ≡ map (chain_in links) ss ++ c ∷ []
one_more links new ss now c s h new_is now_is is =
    ap (λ (l : List ℕ). map (chain_in l) now) new_is
    ∙ (ap (map (chain_in (links ++ c.links))) now_is
    ∙ (map-append (chain_in (links ++ c.links)) ss (s ∷ [])
    ∙ (ap (λ (cs : List Chain). cs ++ chain_in (links ++ c.links) s ∷ []) (all_kept links c.links ss h)
    ∙ ap (λ (x : Chain). map (chain_in links) ss ++ x ∷ []) (last links c s is))))

within_more : (m n : ℕ) (ss : List Span) (s : Span) → m ≤ n → AllByRecursion (IsWithin m) ss → IsWithin n s → AllByRecursion (IsWithin n) (ss ++ s ∷ [])
within_more m n [] s le h w = (w, tt)
within_more m n (t ∷ ss) s le h w = (record { within = omega (arith, le, h.0.within) }, within_more m n ss s le h.1 w)

pub all_within : (links new : List ℕ) (ss now : List Span) (c : Chain) (s : Span) → AllByRecursion (IsWithin (length links)) ss → new ≡ links ++ c.links → now ≡ ss ++ s ∷ [] → IsSpanOf (length links) c s → AllByRecursion (IsWithin (length new)) now
all_within links new ss now c s h new_is now_is is =
    let size : length new ≡ length links + length c.links = ap length new_is ∙ length-append links c.links in
    subst (AllByRecursion (IsWithin (length new))) (sym now_is) (within_more (length links) (length new) ss s (omega (arith, size)) h (record { within = omega (arith, size, is.from, is.len) }))
