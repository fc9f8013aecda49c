pub mod Tables
pub mod Kinds
pub mod Rows
pub mod Making
pub mod States
