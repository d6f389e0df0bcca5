-- The number's digits are as many as `width` says.
use Rattle.std.proofs.Common.{sym, ap, ◌∙◌, length}
use Rattle.report.proofs.Digits.{length-padded}
use Rattle.report.proofs.decimal.put_number.Goals as goal

pub returns-clause-value : goal.returns-clause-value
returns-clause-value c = (sym (ap length c.width-k.ensures.1 ∙ length-padded _ _), c.width-k.ensures.0)
