-- lemmas for this crate and the crates above: where parts stand, by their lengths alone
pub mod Placing
pub mod Following
-- sites, and their pairs with entries
pub mod Sizes
pub mod SiteFacts
pub mod Pairing
pub mod Counters
pub mod Blocks
pub mod Counting
pub mod LayFacts
pub mod InPlacing
pub mod Ruled
-- what the file of any plan that fits loads as, lowest first
pub mod Fine
pub mod NewHeaders
pub mod NewCells
pub mod Fitting
