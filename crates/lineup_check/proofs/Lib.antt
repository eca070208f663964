pub mod Copied
pub mod Single
