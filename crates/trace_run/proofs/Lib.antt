pub mod Running
pub mod OneByOne
