-- why the code gives what the definitions say
pub mod RunSites
pub mod AllSites
pub mod SiteBounds
