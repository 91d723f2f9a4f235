pub mod Due
pub mod Decision
pub mod Rows
