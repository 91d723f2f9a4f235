pub mod Part
pub mod Bytes
pub mod Number
