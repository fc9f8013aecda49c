-- Which format a layout is of once tables are made.
use Rattle.std.proofs.Common.{◌≡◌, Bool, true, false, if◌then◌else◌, List, [], ◌∷◌, refl, sym, true≢false}
use Rattle.sqlite_schema.specs.declared.schema.Schema.{Schema}
use Rattle.desk_parts.specs.declared.file_table.FileTable.{FileTable}
use Rattle.desk_parts.specs.declared.file_table.FileTable.TheVariants as tables
use Rattle.desk_store.specs.Formats.{Format, IsOfFormat, named, unnamed}
use Rattle.desk_rows.specs.Layout.{Layout}
use Rattle.desk_rows.specs.Making.{is_among, new_layout, new_tables, with_tables}
use Rattle.desk_store.proofs.Exact.{has_as_there, stays_there, there_after}

makes : (b has : Bool) → b ≡ true → (if b then true else has) ≡ true
makes true has is = refl
makes false has is = absurd (true≢false (sym is))

-- ---- each table

pub new_format : (s : Schema) → IsOfFormat named (new_layout s)
new_format s tables.Corr = tt
new_format s tables.Cache = sym (there_after new_tables s tables.Cache)
new_format s t = (sym (there_after new_tables s t), refl)

pub with_names : (l : Layout) (made : List FileTable) → IsOfFormat unnamed l → is_among made tables.NamedCorr ≡ true
    → IsOfFormat named (with_tables made l)
with_names l made is among tables.Corr = tt
with_names l made is among tables.Cache = has_as_there made l tables.Cache (is tables.Cache)
with_names l made is among tables.NamedCorr =
    (has_as_there made l tables.NamedCorr (is tables.NamedCorr).0, makes (is_among made tables.NamedCorr) (l.has tables.NamedCorr) among)
with_names l made is among t = (has_as_there made l t (is t).0, stays_there (is_among made t) (l.has t) (is t).1)

pub with_cells : (format : Format) (l : Layout) → IsOfFormat format l → IsOfFormat format (with_tables (tables.Cache ∷ []) l)
with_cells unnamed l is tables.Corr = (has_as_there (tables.Cache ∷ []) l tables.Corr (is tables.Corr).0, (is tables.Corr).1)
with_cells named l is tables.Corr = tt
with_cells format l is tables.Cache = has_as_there (tables.Cache ∷ []) l tables.Cache (is tables.Cache)
with_cells format l is t = (has_as_there (tables.Cache ∷ []) l t (is t).0, (is t).1)
