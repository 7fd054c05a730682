pub mod Faults
pub mod Texts
pub mod Runs
pub mod Pages
pub mod Answering
pub mod Laws
pub mod Reading
pub mod Judging
