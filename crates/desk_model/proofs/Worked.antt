pub mod WorkedDamage
pub mod WorkedRows
