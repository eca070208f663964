pub mod Visits
pub mod Lists
