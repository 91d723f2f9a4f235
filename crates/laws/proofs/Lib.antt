pub mod Choose
pub mod Parted
