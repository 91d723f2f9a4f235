pub mod Says
pub mod Writing
pub mod RoundTrip
