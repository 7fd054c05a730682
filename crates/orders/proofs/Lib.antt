pub mod Filled
pub mod Lines
