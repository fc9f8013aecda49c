use Rattle.std.proofs.Common.{arith}
use Rattle.std.specs.Prelude.{Some, None}
use Rattle.std.proofs.lemmas.Str.Pattern.{split_once_first}
use Rattle.desk_line.proofs.FieldLists.{fields-at-blank, fields-without-blank}
use Rattle.desk_line.proofs.fields.split_line.Goals as goal

pub returns-in-Some : goal.returns-in-Some
returns-in-Some c =
    let parts = split_once_first 32 c.args.line.now (Some (c.in-Some.field, c.in-Some.rest)) c.in-Some.ensures.cases (omega arith) in
    fields-at-blank c.args.line.now c.in-Some.field.now c.in-Some.rest.now parts.0 parts.1 parts.2

pub returns-in-None : goal.returns-in-None
returns-in-None c =
    fields-without-blank c.args.line.now (split_once_first 32 c.args.line.now None c.in-None.ensures.cases (omega arith))
