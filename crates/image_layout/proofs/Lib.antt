-- why the code gives what the definitions say
pub mod Fit
pub mod RunTails
pub mod OneByOne
pub mod Steps
pub mod Putting
pub mod Laying
