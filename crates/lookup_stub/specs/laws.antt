-- what the stub's bytes spell, and what a run of it comes to
pub mod StubBytes
pub mod Spellings
pub mod Run
pub mod Found
