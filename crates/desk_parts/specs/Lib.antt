pub mod Rows
pub mod Tables
pub mod FileRows
pub mod Parts
pub mod Puts
