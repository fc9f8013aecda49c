-- The rows that the parts of a file hold.
use Rattle.std.specs.Prelude.{pos, [], ◌∷◌, map, option_map}
use Rattle.desk_parts.specs.declared.parts.EntryRows.{EntryRows as EntryParts}
use Rattle.desk_parts.specs.declared.parts.EntryRows.TheVariants as parts
use Rattle.desk_parts.specs.declared.parts.Parts.{Parts}
use Rattle.desk_parts.specs.FileRows.{FileRows, EntryRows, Named, Unnamed, format_of}

-- the entries of parts
abbrev pub entry_rows : EntryParts → EntryRows
entry_rows (parts.Unnamed corrs) = Unnamed corrs.items
entry_rows (parts.Named corrs) = Named corrs.items

-- the rows of parts, and the row of `book` in their format with their version
abbrev pub rows_in : Parts → FileRows
rows_in parts = record {
  books = record {
    id = pos 1;
    format = pos (format_of (entry_rows parts.entries));
    version = parts.version;
  } ∷ [];
  tabs = map (λ stored. stored.row) parts.tabs.items;
  paras = parts.paras.items;
  entries = entry_rows parts.entries;
  marks = parts.marks.items;
  caches = option_map (λ caches. caches.items) parts.cache;
}
