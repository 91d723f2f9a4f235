pub mod Moments
pub mod Later
