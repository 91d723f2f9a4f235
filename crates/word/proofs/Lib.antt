pub mod Words
pub mod Alone
pub mod Groups
