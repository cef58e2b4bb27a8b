pub mod Held
pub mod Kept
pub mod Clear
pub mod Cut
pub mod Calls
