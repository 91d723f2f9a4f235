pub mod Paper
pub mod Calls
pub mod Collect
