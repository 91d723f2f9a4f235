pub mod Zeros
pub mod Numbers
pub mod Hands
