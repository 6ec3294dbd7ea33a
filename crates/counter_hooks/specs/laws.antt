-- what is read from the text of a list
pub mod ListTexts
-- what a counter's bytes spell, its eight bytes as two words, and what a run of it comes to
pub mod Spellings
pub mod Words
pub mod Run
pub mod Counted
