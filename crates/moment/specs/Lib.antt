pub mod Moment
pub mod Reading
