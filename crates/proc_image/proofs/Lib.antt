-- lemmas that the proofs of this crate share
pub mod Pages
pub mod Reading
pub mod Putting
pub mod Executing
pub mod Walking
pub mod Counts
pub mod Fills
pub mod Fresh
pub mod Effecting
pub mod Segmented
pub mod Stacking
pub mod Copying
