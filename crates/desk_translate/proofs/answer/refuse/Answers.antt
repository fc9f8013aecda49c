use Rattle.std.proofs.Common.{◌∙◌}
use Rattle.desk_ends.proofs.Numerals.{decimal-1, decimal-7, decimal-14}
use Rattle.desk_translate.proofs.answer.refuse.Goals as goal

pub returns-in-NoText : goal.returns-in-NoText
returns-in-NoText g c = rw (c.in-NoText.is, decimal-1) c.send.ensures

pub returns-in-TooLong : goal.returns-in-TooLong
returns-in-TooLong g c = rw (c.in-TooLong.is, decimal-14) c.send-in-TooLong.ensures

pub returns-in-Undefined : goal.returns-in-Undefined
returns-in-Undefined g c = rw (c.in-Undefined.is, decimal-7) (rw (c.as_bytes.ensures.value ∙ c.format.ensures.text) at c.send_parts.ensures)
