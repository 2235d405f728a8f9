pub mod Board
pub mod Rounds
pub mod Runs
