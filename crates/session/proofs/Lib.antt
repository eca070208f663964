pub mod Tables
pub mod Histories
pub mod Admissions
pub mod Reports
pub mod Replays
