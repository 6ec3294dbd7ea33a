-- the law's premises are met
pub mod Instance
