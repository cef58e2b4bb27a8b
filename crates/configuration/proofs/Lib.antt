pub mod Asking
pub mod Entries
pub mod Index
pub mod Members
pub mod Searches
