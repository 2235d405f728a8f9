pub mod Meant
