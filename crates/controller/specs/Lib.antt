pub mod Access
pub mod Turns
pub mod Model
pub mod Runs
pub mod Controller
