pub mod Windows
pub mod Tracks
pub mod Attempts
pub mod Frames
pub mod Pieces
pub mod Formats
pub mod Writes
pub mod Calls
