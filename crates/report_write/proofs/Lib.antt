pub mod Fields
pub mod Given
pub mod Loops
pub mod Writes
