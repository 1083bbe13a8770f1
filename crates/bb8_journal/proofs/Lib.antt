pub mod Endings
pub mod Histories
pub mod Accounts
mod Words
