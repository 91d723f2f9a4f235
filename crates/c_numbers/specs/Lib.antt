pub mod Clauses
pub mod Kinds
pub mod Records
pub mod Starts
pub mod Statements
