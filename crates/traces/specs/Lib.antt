pub mod Marks
pub mod Traces
