pub mod Readers
pub mod RowLists
