-- Bytes behind others.
use Rattle.std.proofs.Common.{◌≡◌, ℕ, ◌+◌, ◌-◌, ◌≤◌, List, ◌++◌, length, take, drop, replicate, ap, ◌∙◌, append_assoc, arith}
use Rattle.std.proofs.lemmas.List.{take_all}
use Rattle.elf32_read.specs.declared.image.Segment.{Segment}
use Rattle.elf32_read.specs.Runs.{segment_bytes}

-- a list that is filled up with zeros
pub filled_up : (b : List ℕ) (s : Segment) (held front more : List ℕ) (len all : ℕ) → front ≡ held ++ take s.filesz (drop s.offset b) → len ≡ length front
    → all ≡ len + (s.range.len - s.filesz) → more ≡ take all front ++ replicate (all - len) 0 → more ≡ held ++ segment_bytes b s
unfolding segment_bytes
filled_up b s held front more len all starts is sum fills =
    let zeros : all - len ≡ s.range.len - s.filesz = omega arith in
    let room : length front ≤ all = omega arith in
    fills ∙ ap (λ x. x ++ replicate (all - len) 0) (take_all all front room ∙ starts)
    ∙ ap (λ n. (held ++ take s.filesz (drop s.offset b)) ++ replicate n 0) zeros
    ∙ append_assoc held (take s.filesz (drop s.offset b)) (replicate (s.range.len - s.filesz) 0)
