pub mod Reply
pub mod NoBraille
pub mod Run
pub mod NextLine
pub mod Sends
pub mod Braille
