pub mod Endings
pub mod Notes
pub mod History
pub mod Audit
