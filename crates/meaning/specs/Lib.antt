pub mod Paper
