pub mod Kinds
pub mod Run
