pub mod Tests
pub mod Sounds
