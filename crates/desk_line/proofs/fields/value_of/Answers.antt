use Rattle.std.proofs.Common.{arith}
use Rattle.desk_line.proofs.DigitValues.{digit-at, value-bound, value-more, value-small}
use Rattle.desk_line.proofs.fields.value_of.Goals as goal

pub overflow_mul-value : goal.overflow_mul-value
overflow_mul-value c =
    let range = digit-at c.args.digits.now c.loop-digit.digit-index c.requires.all (omega arith) in
    let bound = value-bound c.args.digits.now c.loop-digit.digit-index c.loop-digit.value (omega arith) (omega arith) range c.loop-digit.invariant.is c.loop-digit.invariant.small in
    omega arith

pub overflow_add-value : goal.overflow_add-value
overflow_add-value c =
    let range = digit-at c.args.digits.now c.loop-digit.digit-index c.requires.all (omega arith) in
    let bound = value-bound c.args.digits.now c.loop-digit.digit-index c.loop-digit.value (omega arith) (omega arith) range c.loop-digit.invariant.is c.loop-digit.invariant.small in
    omega (arith, c.from.ensures)

pub loop-digit-preserved : goal.loop-digit-preserved
loop-digit-preserved c =
    let range = digit-at c.args.digits.now c.loop-digit.digit-index c.requires.all (omega arith) in
    record {
      is = value-more c.args.digits.now c.loop-digit.digit-index c.loop-digit.value (omega arith) (omega arith) range c.loop-digit.invariant.is c.loop-digit.invariant.small c.from.result c.from.ensures;
      small = value-small c.args.digits.now c.loop-digit.digit-index c.loop-digit.value (omega arith) (omega arith) range c.loop-digit.invariant.is c.loop-digit.invariant.small c.from.result c.from.ensures;
    }
