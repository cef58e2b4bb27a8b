pub mod Asked
pub mod Told
