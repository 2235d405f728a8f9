pub mod Fed
pub mod Inverted
pub mod Marked
pub mod Sizes
