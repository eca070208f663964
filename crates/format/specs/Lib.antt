pub mod Records
pub mod Reading
pub mod Decoding
pub mod Encoding
pub mod Writing
pub mod Standing
