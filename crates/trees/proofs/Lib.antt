pub mod Arrays
pub mod Entries
pub mod Ranks
pub mod Refusals
