pub mod BookRows
pub mod FilledRows
pub mod OneBook
pub mod ParaRows
pub mod PutRows
pub mod RowParts
pub mod SameRows
pub mod SortedTabs
