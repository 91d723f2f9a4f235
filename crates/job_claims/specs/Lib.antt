pub mod Verdict
pub mod Rows
pub mod Hands
