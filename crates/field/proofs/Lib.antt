pub mod Put
pub mod Parts
pub mod Same
pub mod Numbers
