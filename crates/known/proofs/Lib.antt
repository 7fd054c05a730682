pub mod Values
pub mod Chained
pub mod Classes
pub mod Groupings
pub mod Fillings
pub mod Reductions
pub mod Questions
pub mod Roundings
