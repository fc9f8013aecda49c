-- The formats of a file, and which tables each has.
use Rattle.std.specs.Prelude.{◌≡◌, Bool, true, false, ⊤}
use Rattle.desk_parts.specs.declared.file_table.FileTable.{FileTable}
use Rattle.desk_parts.specs.declared.file_table.FileTable.TheVariants as tables
use Rattle.desk_rows.specs.Layout.{Layout}
use Rattle.desk_rows.specs.Tables.{is_there}

-- the layout has just those of our tables that the schema has by their names
abbrev pub IsExact : Layout → Type 0
IsExact l = (t : FileTable) → l.has t ≡ is_there l.schema t

-- Entries of histories without names, and with them.
pub data Format : Type 0 where
  unnamed : Format
  named : Format

-- whether a format needs a table, may have it, excludes it, or does not read what stands there
pub data Presence : Type 0 where
  needed : Presence
  optional : Presence
  foreign : Presence
  unread : Presence

-- A file without `cache` gets it when it is opened. If entries have names, nothing reads `corr`, so
-- anything may stand there under its name.
abbrev pub presence : Format → FileTable → Presence
presence unnamed tables.Book = needed
presence unnamed tables.Tab = needed
presence unnamed tables.Para = needed
presence unnamed tables.Corr = needed
presence unnamed tables.Mark = needed
presence unnamed tables.Cache = optional
presence unnamed tables.NamedCorr = foreign
presence named tables.Book = needed
presence named tables.Tab = needed
presence named tables.Para = needed
presence named tables.Corr = unread
presence named tables.Mark = needed
presence named tables.Cache = optional
presence named tables.NamedCorr = needed

-- what a layout has of a table, and whether something is there by its name
abbrev pub IsPresent : Presence → (has there : Bool) → Type 0
IsPresent needed has there = (has ≡ there) × (has ≡ true)
IsPresent optional has there = has ≡ there
IsPresent foreign has there = (has ≡ there) × (has ≡ false)
IsPresent unread has there = ⊤

-- it has the tables of a file of this format, and of those that are read exactly those that are
-- there; whatever stands under the name `corr` in the second format isn't read
abbrev pub IsOfFormat : Format → Layout → Type 0
IsOfFormat format l = (t : FileTable) → IsPresent (presence format t) (l.has t) (is_there l.schema t)

-- the layout is of one of the two formats
abbrev pub IsOfEither : Layout → Type 0
IsOfEither l = (format : Format) × IsOfFormat format l
