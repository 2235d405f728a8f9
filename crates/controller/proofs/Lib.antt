pub mod Runs
pub mod Reached
