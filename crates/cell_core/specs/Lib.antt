pub mod Cell
pub mod Dots
pub mod Reading
pub mod Ascii
