pub mod Hash
pub mod Probe
pub mod Measure
pub mod Sweep
