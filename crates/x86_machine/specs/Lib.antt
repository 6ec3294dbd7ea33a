pub mod Calls
pub mod Descriptors
pub mod Inside
pub mod TurnResults
pub mod Machines
pub mod Bounded
pub mod Stepping
pub mod Starting
