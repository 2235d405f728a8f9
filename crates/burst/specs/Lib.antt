pub mod Search
pub mod Apart
pub mod Mending
