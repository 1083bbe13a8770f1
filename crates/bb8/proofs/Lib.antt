pub mod Built
pub mod Failing
pub mod Lends
