pub mod Creates
pub mod MadeTables
pub mod MoreTables
pub mod Schemas
