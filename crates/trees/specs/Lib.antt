pub mod Refusals
pub mod Alphabets
pub mod Lists
