pub mod Asking
pub mod PlainWords
pub mod Walked
pub mod OneWord
pub mod Taken
