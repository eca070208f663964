pub mod Limits
pub mod Faults
pub mod Kinds
pub mod Rows
