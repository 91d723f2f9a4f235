pub mod SignedLaws
pub mod Digits
pub mod Numerals
