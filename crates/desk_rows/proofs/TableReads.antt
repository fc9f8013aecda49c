pub mod Answering
pub mod Beginnings
pub mod FileTexts
pub mod OneList
pub mod PlainReads
pub mod WholeFile
pub mod WholeReads
