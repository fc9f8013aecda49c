pub mod Both
pub mod Committing
pub mod Ending
pub mod LostStores
pub mod Turns
