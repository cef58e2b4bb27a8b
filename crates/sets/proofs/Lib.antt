pub mod Flags
pub mod Orders
pub mod Picks
pub mod Rising
pub mod ByNumber
