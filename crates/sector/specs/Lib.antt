pub mod Sizes
pub mod Bits
