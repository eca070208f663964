pub mod Boards
pub mod Pools
