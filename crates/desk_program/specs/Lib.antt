pub mod Shelf
pub mod Fault
pub mod Books
pub mod Program
