pub mod Oldest
pub mod Places
