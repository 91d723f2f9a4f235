pub mod Tokens
pub mod Items
pub mod Files
pub mod Numbers
pub mod NoToken
