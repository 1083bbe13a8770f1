pub mod Entries
pub mod Guards
pub mod Runners
pub mod Turns
