pub mod Records
pub mod Sets
