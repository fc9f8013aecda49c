use Rattle.std.proofs.Common.{rules}
use Rattle.desk_memory.proofs.paragraph_marks.ParagraphMarks.new.Goals as goal

pub returns : goal.returns
returns c = search rules
