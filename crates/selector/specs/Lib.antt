pub mod Classes
pub mod Answers
pub mod Strict
pub mod Turns
pub mod Orders
pub mod Firsts
