pub mod Parts
pub mod Record
pub mod Image
pub mod Meaning
pub mod Holds
