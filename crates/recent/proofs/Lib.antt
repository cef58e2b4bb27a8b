pub mod Rights
pub mod Options
