pub mod RowStates
pub mod View
pub mod Faults
pub mod Answers
pub mod Arrivals
pub mod Reports
pub mod Ticks
pub mod Replays
