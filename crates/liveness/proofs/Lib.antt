pub mod Derivations
pub mod Following
pub mod Founds
pub mod Listings
pub mod Lives
pub mod Onward
pub mod Reaches
