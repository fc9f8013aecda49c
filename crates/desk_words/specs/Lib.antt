pub mod Subcommands
pub mod Action
pub mod Words
pub mod Plain
