pub mod Outcomes
pub mod Texts
pub mod Rules
pub mod Standing
pub mod Shown
pub mod RoundTrip
pub mod Older
pub mod Says
