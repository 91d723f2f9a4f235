pub mod Passed
pub mod Values
pub mod Along
pub mod From
pub mod Bridge
