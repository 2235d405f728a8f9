pub mod First
pub mod Apart
pub mod Patterns
pub mod Shift
pub mod Searching
pub mod Restoring
