pub mod Tests
pub mod Runs
pub mod Blanks
pub mod Settled
