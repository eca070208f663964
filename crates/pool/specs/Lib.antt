pub mod Pools
pub mod Visits
