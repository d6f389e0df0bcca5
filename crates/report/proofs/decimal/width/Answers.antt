-- The digits of a number, one more for each bound that it reaches.
use Rattle.std.proofs.Common.{◌/◌, arith}
use Rattle.report.specs.Decimal.{decimal}
use Rattle.report.proofs.Digits.{one_digit, more_digits}
use Rattle.report.proofs.decimal.width.Goals as goal

pub returns-in-0-to-9 : goal.returns-in-0-to-9
unfolding decimal
returns-in-0-to-9 c = (omega arith, one_digit 19 c.args.x (omega arith))

pub returns-in-10-to-99 : goal.returns-in-10-to-99
unfolding decimal
returns-in-10-to-99 c = let x = c.args.x in (omega arith, more_digits 19 1 x (omega arith) (one_digit 18 (x / 10) (omega arith)))

pub returns-in-100-to-999 : goal.returns-in-100-to-999
unfolding decimal
returns-in-100-to-999 c =
    let x = c.args.x in
    (omega arith, more_digits 19 2 x (omega arith) (more_digits 18 1 _ (omega arith) (one_digit 17 _ (omega arith))))

pub returns-in-1000-to-9999 : goal.returns-in-1000-to-9999
unfolding decimal
returns-in-1000-to-9999 c =
    let x = c.args.x in
    (omega arith, more_digits 19 3 x (omega arith) (more_digits 18 2 _ (omega arith) (more_digits 17 1 _ (omega arith) (one_digit 16 _ (omega arith)))))

pub returns-in_default : goal.returns-in_default
unfolding decimal
returns-in_default c =
    let x = c.args.x in
    (omega arith, more_digits 19 4 x (omega arith) (more_digits 18 3 _ (omega arith) (more_digits 17 2 _ (omega arith) (more_digits 16 1 _ (omega arith) (one_digit 15 _ (omega arith))))))
