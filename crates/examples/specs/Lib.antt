pub mod Bridges
pub mod Lines
pub mod Worked
pub mod Mixed
