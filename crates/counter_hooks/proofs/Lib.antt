-- what a binary search tells of a list's elements, how the text of a rule is read, and that the counter's premises are met
mod Searched
mod Texts
pub mod Instance
