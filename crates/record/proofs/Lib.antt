pub mod Lengths
pub mod Writes
pub mod Says
