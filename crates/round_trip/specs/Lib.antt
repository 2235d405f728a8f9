pub mod Events
pub mod Ledger
pub mod Laws
pub mod Examples
