-- How a table text is read, step by step: what the code's steps compute, and what the contracts of
-- its private functions say of them. No public contract needs these words: `Table` says what a text
-- means.
pub mod Fields
pub mod Characters
pub mod Opcode
pub mod Fault
pub mod Dots
pub mod Table
pub mod Line
pub mod Draft
pub mod Pending
pub mod Read
