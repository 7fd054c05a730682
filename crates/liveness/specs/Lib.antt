pub mod Listings
pub mod Reaching
pub mod Living
