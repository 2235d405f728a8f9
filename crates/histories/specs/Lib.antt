pub mod Working
pub mod Examples
