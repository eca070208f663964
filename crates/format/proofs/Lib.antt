pub mod Bytes
pub mod Lengths
pub mod Splitting
pub mod Reread
pub mod Rereading
pub mod Taken
pub mod Recoding
