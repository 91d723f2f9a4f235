pub mod Offsets
pub mod Steps
pub mod Loops
pub mod Rest
pub mod Bridge
pub mod Answers
