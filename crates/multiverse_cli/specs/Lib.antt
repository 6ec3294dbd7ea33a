-- the definitions that this crate's contracts cite
pub mod Answers
pub mod Commands
pub mod Failures
pub mod Listing
pub mod Loads
pub mod Outside
pub mod Sample
pub mod Steps
pub mod Texts
pub mod Verdicts
pub mod Wordless
pub mod Words
