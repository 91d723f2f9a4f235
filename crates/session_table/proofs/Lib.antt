pub mod Verdicts
pub mod Searches
pub mod Making
pub mod Placing
pub mod Turns
pub mod Answering
pub mod Collecting
pub mod Untouched
