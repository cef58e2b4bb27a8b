pub mod Address
pub mod Packed
pub mod Reading
pub mod Writing
