pub mod Entries
pub mod Fids
pub mod Rising
pub mod Calls
pub mod Records
pub mod Checks
