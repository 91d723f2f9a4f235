pub mod Lines
pub mod Found
