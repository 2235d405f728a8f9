pub mod Working
pub mod Orders
pub mod Asked
