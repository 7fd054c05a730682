pub mod Adds
pub mod Books
pub mod Entries
pub mod Lookups
pub mod Prefixes
pub mod Pushes
pub mod Rows
pub mod Undone
