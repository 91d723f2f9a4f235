pub mod Job
pub mod Statement
pub mod Loop
