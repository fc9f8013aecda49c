use Rattle.std.proofs.Common.{◌≡◌, List, [], length, All}
use Rattle.desk_rebuild.specs.declared.paras.OrderedParas.{OrderedParas}
use Rattle.desk_memory.specs.declared.paragraphs.Paragraph.{Paragraph as HeldParagraph}
use Rattle.desk_parts.specs.declared.file_table.FileTable.TheVariants.{Para as ParaTable}
use Rattle.desk_model.specs.Damage.{IsDamagedPara}
use Rattle.desk_rebuild.specs.Rows.{AreInPlaces, AreOf, IsWhole}
use Rattle.desk_rebuild.specs.Paras.{AreHeldOf, para_rule}
use Rattle.desk_memory.specs.Held.{HeldTables}
use Rattle.desk_parts.specs.Rows.{Para}
use Rattle.desk_rebuild.proofs.FirstTables.{first-of-table, read-of-table}
use Rattle.desk_rebuild.proofs.ParaOrder.{are-of, in-places, unmarked}
use Rattle.desk_rebuild.proofs.ParaRows.{tells, whole}
use Rattle.desk_rebuild.proofs.paras.read_paras.Goals as goal

abbrev Reads : HeldTables → List Para → OrderedParas → Type 0
Reads tables sorted judged = AreHeldOf tables (length sorted) sorted judged.items.items judged.order.items

pub returns : goal.returns
returns c =
    let tables = c.args.tables.now in
    let rows = c.args.rows.items in
    let sorted = c.sort.new.rows.items in
    let moved = c.sort.ensures.same in
    let read = (λ (P : OrderedParas → Type 0) (follows : (judged : OrderedParas) → Reads tables sorted judged → P judged).
    read-of-table ParaTable c.paragraphs_of.result c.of_table.result c.of_table.ensures (Reads tables sorted) P follows c.paragraphs_of.ensures.held) in
    record {
      whole = λ tabs are. read (λ judged. IsWhole (IsDamagedPara tabs rows)) (λ judged have. whole tabs tables are rows sorted moved c.sort.ensures.sorted have.held.sound);
      items = λ tabs are. read (λ judged. AreOf rows judged.items.items) (λ judged have. are-of tables rows sorted moved judged.items.items judged.order.items have);
      unmarked = read (λ judged. All (λ (held : HeldParagraph). held.marks ≡ []) judged.items.items) (λ judged have. unmarked tables rows sorted moved judged.items.items judged.order.items have);
      order = λ tabs are. read (λ judged. AreInPlaces rows judged.order.items) (λ judged have.
          in-places tables rows sorted moved judged.items.items judged.order.items have tabs (whole tabs tables are rows sorted moved c.sort.ensures.sorted have.held.sound));
      damaged = λ tabs are. first-of-table ParaTable c.paragraphs_of.result c.of_table.result c.of_table.ensures (para_rule tables sorted) sorted (IsDamagedPara tabs rows)
          (tells tabs tables are rows sorted moved c.sort.ensures.sorted) c.paragraphs_of.ensures.damaged;
    }
