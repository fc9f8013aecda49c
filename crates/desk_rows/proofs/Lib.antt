pub mod Commits
pub mod TableReads
pub mod RowPuts
pub mod Schema
pub mod Transactions
