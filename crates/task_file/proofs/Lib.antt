pub mod Bays
pub mod Bits
pub mod Ids
