pub mod Undefined
pub mod Answering
pub mod Putting
pub mod Cuts
pub mod Taking
pub mod LastLine
pub mod Runs
