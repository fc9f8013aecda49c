pub mod Lists
pub mod Commands
pub mod Books
pub mod Rows
pub mod Damage
pub mod Worked
pub mod Callers
