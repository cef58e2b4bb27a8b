pub mod Order
pub mod Records
pub mod Room
pub mod Rising
pub mod Implement
pub mod Views
pub mod After
