pub mod Ends
pub mod Sending
pub mod Cells
pub mod Block
pub mod Limits
pub mod Lines
pub mod Input
