-- the definitions that this crate's contracts, and those of the crates above, cite
pub mod Sites
pub mod Layout
pub mod Output
pub mod OutputFile
pub mod Rewriting
pub mod Upgrading
