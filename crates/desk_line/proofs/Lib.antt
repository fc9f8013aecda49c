pub mod CutLaws
mod DigitValues
pub mod LackedBytes
mod FieldLists
pub mod HeadLines
pub mod WrittenFields
pub mod GrammarLaws
pub mod CommandLaws
pub mod HeadLaws
pub mod LineLists
pub mod OperandLaws
pub mod RequestLaws
pub mod Putting
pub mod Replying
pub mod ReplyLines
pub mod Writing
mod WorkedRows
