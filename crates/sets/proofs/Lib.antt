pub mod Members
pub mod Laws
pub mod Digits
pub mod Chains
