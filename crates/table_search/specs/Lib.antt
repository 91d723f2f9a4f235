pub mod Limited
pub mod Search
