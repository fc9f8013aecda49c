pub mod FirstDamage
pub mod SameDamage
pub mod SoundEntryRows
pub mod SoundParaRows
pub mod SoundRows
pub mod UndamagedBook
pub mod UndamagedEntries
pub mod UndamagedRows
