pub mod Counts
pub mod Text
