pub mod Lines
pub mod Separators
