pub mod Laws
pub mod ReadLaws
pub mod PlainLaws
