-- how long the pieces are, and what their steps come to
pub mod Lengths
pub mod Going
