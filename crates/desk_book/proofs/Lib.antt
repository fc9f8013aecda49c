pub mod Plans
pub mod Held
pub mod RowPuts
