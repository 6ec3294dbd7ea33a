pub mod Candidates
pub mod Reading
pub mod Choice
pub mod Decoding
