pub mod Stretch
pub mod Layout
pub mod Sets
