pub mod Indexed
pub mod Saying
pub mod Searched
