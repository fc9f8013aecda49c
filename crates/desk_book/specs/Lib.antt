pub mod Changes
pub mod Plans
pub mod Corrections
pub mod Marking
pub mod Filling
pub mod ChangePuts
pub mod PutsLeft
