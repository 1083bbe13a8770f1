pub mod Listed
pub mod Stepped
mod Words
