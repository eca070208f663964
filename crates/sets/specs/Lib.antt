pub mod Sets
pub mod Laws
pub mod Digits
pub mod Chains
