-- why the code gives what the definitions say
pub mod Lists
pub mod Numbers
pub mod Marks
pub mod Walks
pub mod Framed
-- why a file in which nothing differs simulates its input
pub mod NoDifference
pub mod Carried
pub mod Sound
-- what is checked, whole
pub mod Answering
-- why nothing differs in what a rewriting makes, and so what checking that gives
pub mod Complete
pub mod Passing
