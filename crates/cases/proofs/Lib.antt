pub mod Searches
pub mod Bounds
pub mod Replies
pub mod Outlines
pub mod OutlineSteps
pub mod Run
pub mod Examples
