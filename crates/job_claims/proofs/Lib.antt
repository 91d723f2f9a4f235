pub mod Places
pub mod Tiles
pub mod One
pub mod Claims
pub mod Statements
pub mod Hands
pub mod Determined
pub mod Clauses
