use Rattle.std.proofs.Common.{◌≡◌, map, take}
use Rattle.std.specs.List.{AllByRecursion}
use Rattle.desk_rows.specs.TableQuery.{query_of, given}
use Rattle.desk_rows.specs.Rows.{own, shown_columns}
use Rattle.desk_parts.specs.FileRows.{HasUtf8Texts}
use Rattle.desk_rows.proofs.TableReads.Beginnings.{MayBegin}
use Rattle.desk_rows.proofs.read.all_of.Given as goal

-- the rows so far are read
abbrev pub invariant-loop-row : goal.invariant-loop-row
invariant-loop-row g l =
    let t = g.T.TableRow.table in
    record {
      rows : map (given t) (take l.row-index l.rows) ≡ map (λ x. shown_columns t (g.T.TableRow.view x)) l.all.items;
      begins : MayBegin (query_of t).kinds (take l.row-index l.rows);
      utf8 : AllByRecursion (λ x. HasUtf8Texts t (own t (g.T.TableRow.view x))) l.all.items;
    }
