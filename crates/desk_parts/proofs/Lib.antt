pub mod PutCodes
