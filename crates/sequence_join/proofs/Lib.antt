-- why the code gives what the definitions say
pub mod Marks
pub mod Greedy
pub mod Spanning
