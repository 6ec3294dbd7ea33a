-- what a run of each piece comes to
pub mod Registers
pub mod Operands
pub mod Private
pub mod Pushing
pub mod Calls
pub mod Returns
pub mod Via
-- how long pieces are, and what loads an operand
pub mod Lengths
