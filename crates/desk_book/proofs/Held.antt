pub mod Applied
pub mod HeldLookups
pub mod Settled
pub mod ShownEffects
