pub mod Ahead
pub mod Strings
pub mod Whole
