pub mod Faithful
pub mod Weighings
pub mod Continuing
pub mod Wholes
