pub mod Follow
