pub mod Word
pub mod Names
