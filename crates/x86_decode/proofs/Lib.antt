pub mod Maps
pub mod Best
pub mod Lacking
pub mod Among
pub mod Behind
pub mod Whole
pub mod Choosing
