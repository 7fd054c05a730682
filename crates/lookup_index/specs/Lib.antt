pub mod Hashing
pub mod Indexes
