-- how a line is read
pub mod Words
pub mod Operands
pub mod Mnemonics
pub mod Building
pub mod Transfers
-- what a line says
pub mod Lines
pub mod Names
pub mod Forms
-- what a source assembles to
pub mod Listings
pub mod Sources
pub mod Faults
pub mod Reads
pub mod Labels
pub mod Spots
pub mod Writing
