pub mod Own
pub mod Parsed
pub mod Placed
pub mod Back
pub mod Room
