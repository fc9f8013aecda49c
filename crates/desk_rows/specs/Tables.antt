-- Whether a file has a table, and which tables are written.
use Rattle.std.specs.Prelude.{◌≡◌, Bool, ◌&&◌, ◌||◌, not, true, List, is_some, option_map, unwrap_or}
use Rattle.std.specs.List.{AllByRecursion, list_any}
use Rattle.sqlite_schema.specs.Names.{same_name, table_named}
use Rattle.sqlite_schema.specs.declared.schema.Schema.{Schema}
use Rattle.sqlite_schema.specs.declared.schema.View.{View as Stored}
use Rattle.desk_parts.specs.declared.file_table.FileTable.{FileTable}
use Rattle.desk_rows.specs.Descriptions.{description_of}

-- A view, or a table that the database keeps without understanding it. An index and a trigger name
-- another object as their table, and a trigger or an index that the database can't read binds it.
abbrev pub is_table_or_view : Stored → Bool
is_table_or_view v = unwrap_or (option_map (λ owner. not v.binds && same_name owner v.name) v.foreign) true

-- a table or a view has its name, in whichever case of the letters
abbrev pub is_there : Schema → FileTable → Bool
is_there s t =
    let name = (description_of t).name in
    is_some (table_named s name) || list_any (λ v. same_name v.name name && is_table_or_view v) s.views

-- none of these is `corr`
abbrev pub AreWritten : List FileTable → Type 0
AreWritten = AllByRecursion (λ t. (description_of t).is_written ≡ true)
