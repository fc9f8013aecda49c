pub mod ByName
pub mod Changing
pub mod LentPuts
pub mod Named
pub mod PutTables
pub mod Utf8Puts
