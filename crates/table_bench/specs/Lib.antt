pub mod Kinds
pub mod Work
pub mod Task
