pub mod Code
pub mod Aligned
pub mod Laws
pub mod Division
pub mod Examples
pub mod Mode
pub mod Sound
