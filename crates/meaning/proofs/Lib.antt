pub mod Readings
pub mod Lossless
