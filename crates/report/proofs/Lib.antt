pub mod Numbers
pub mod Fields
pub mod Stood
pub mod Lines
pub mod Reports
pub mod Cells
pub mod Loops
pub mod Answers
