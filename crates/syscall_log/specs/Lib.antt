-- the definitions that this crate's contracts, and those of the crates above, cite
pub mod Faults
pub mod Grammar
pub mod Meaning
pub mod Rules
-- how a line is read, which this crate's own contracts cite
pub mod Drafts
pub mod Following
pub mod Phases
pub mod Reading
pub mod Reads
