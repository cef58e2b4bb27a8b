pub mod Refused
pub mod Decided
pub mod Kept
pub mod View
pub mod Making
pub mod Told
pub mod Flooding
pub mod LaidBy
