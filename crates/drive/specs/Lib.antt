pub mod Asking
pub mod Model
pub mod Calls
pub mod Bounds
pub mod Empty
