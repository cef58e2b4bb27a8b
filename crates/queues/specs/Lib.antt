pub mod Rings
pub mod Standing
pub mod Laying
pub mod Taking
