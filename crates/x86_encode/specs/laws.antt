-- operands and rows, both ways
pub mod Ordered
pub mod Leading
pub mod Addressed
pub mod Shortest
pub mod Taken
pub mod Immediates
pub mod Tabled
pub mod Spelt
pub mod Covered
-- what is least
pub mod Chosen
-- for the crates above: what loads the operand of a jump or a call
pub mod Loads
