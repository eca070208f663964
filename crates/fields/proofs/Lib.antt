pub mod Digits
pub mod Packing
pub mod Placing
