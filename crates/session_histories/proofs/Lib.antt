pub mod Frames
pub mod Leaves
pub mod Stored
pub mod Fresh
pub mod Does
