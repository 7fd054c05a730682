pub mod Books
pub mod Lookup
pub mod Measures
pub mod Pushing
pub mod Running
pub mod Shapes
pub mod Weighing
