pub mod Remembered
pub mod Right
