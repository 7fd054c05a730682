pub mod Weights
pub mod Reading
pub mod Marks
pub mod Modulo
pub mod ResidueLaws
pub mod Residues
pub mod CostSums
pub mod Costs
