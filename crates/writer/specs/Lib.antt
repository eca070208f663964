pub mod Writers
pub mod Holding
