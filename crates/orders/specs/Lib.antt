pub mod Choosing
pub mod Entries
pub mod Symbols
pub mod Tables
