pub mod Probing
pub mod Measured
