pub mod Find
pub mod Records
pub mod Table
pub mod Sound
pub mod History
pub mod Runs
pub mod Owed
