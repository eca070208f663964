pub mod LineUps
pub mod Run
pub mod Examples
