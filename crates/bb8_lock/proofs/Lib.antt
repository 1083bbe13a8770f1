pub mod CriticalSections
mod Words
