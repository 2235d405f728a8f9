pub mod Entries
pub mod Adding
pub mod Faults
pub mod Under
