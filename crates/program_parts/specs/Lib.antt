pub mod Measures
pub mod Winchester
pub mod Laying
