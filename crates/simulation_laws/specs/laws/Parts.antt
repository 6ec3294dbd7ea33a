-- What stands, stands part by part.
use Rattle.std.proofs.Common.{◌≡◌, ℕ, ◌+◌, ◌<◌, true, false, List, ◌++◌, length, Some, sym, ap, ◌∙◌, subst, arith, length-append}
use Rattle.std.proofs.lemmas.List.{get_or_append_left, get_or-append-add}
use Rattle.mv_base.specs.Memory.{exec_byte, is_writable}
use Rattle.elf32_read.specs.Load.{load}
use Rattle.elf32_write.specs.Frame.{Frame, is_added, is_private}
use Rattle.simulation_laws.specs.Relocated.{StandAt}

pub front_of : (x : List ℕ) (f : Frame) (at : ℕ) (xs ys : List ℕ) → StandAt x f at (xs ++ ys) → StandAt x f at xs
front_of x f at xs ys h =
    let in_all : (k : ℕ) → k < length xs → k < length (xs ++ ys) = λ k lt. omega (arith, lt, length-append xs ys) in
    record {
      byte = λ k lt. h.byte k (in_all k lt) ∙ ap Some (get_or_append_left xs ys 0 k lt);
      fixed = λ k lt. h.fixed k (in_all k lt);
      added = λ k lt. h.added k (in_all k lt);
      public = λ k lt. h.public k (in_all k lt);
    }

pub back_of : (x : List ℕ) (f : Frame) (at : ℕ) (xs ys : List ℕ) → StandAt x f at (xs ++ ys) → StandAt x f (at + length xs) ys
back_of x f at xs ys h =
    let in_all : (k : ℕ) → k < length ys → length xs + k < length (xs ++ ys) = λ k lt. omega (arith, lt, length-append xs ys) in
    let place : (k : ℕ) → at + length xs + k ≡ at + (length xs + k) = λ k. omega arith in
    record {
      byte = λ k lt. ap (exec_byte (load x)) (place k) ∙ (h.byte (length xs + k) (in_all k lt) ∙ ap Some (get_or-append-add xs ys k 0));
      fixed = λ k lt. subst (λ a. is_writable (load x) a ≡ false) (sym (place k)) (h.fixed (length xs + k) (in_all k lt));
      added = λ k lt. subst (λ a. is_added f a ≡ true) (sym (place k)) (h.added (length xs + k) (in_all k lt));
      public = λ k lt. subst (λ a. is_private f a ≡ false) (sym (place k)) (h.public (length xs + k) (in_all k lt));
    }
