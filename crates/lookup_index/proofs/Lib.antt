pub mod Chains
pub mod Firsts
pub mod Hashes
pub mod Located
pub mod Positions
pub mod Walks
