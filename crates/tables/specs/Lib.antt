pub mod Histories
pub mod Images
pub mod Reductions
pub mod Promises
