pub mod Settings
pub mod Figures
pub mod Numbered
pub mod Places
pub mod Grants
pub mod Errors
pub mod ErrorLaws
pub mod Bounds
