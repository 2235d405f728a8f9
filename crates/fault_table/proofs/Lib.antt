pub mod Searched
pub mod Covered
pub mod Under
