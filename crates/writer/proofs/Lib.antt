pub mod Filling
pub mod Keeping
