-- The call does not decline, and the front of the table is the factor table.
use Rattle.std.proofs.Common.{Ok, ap, arith}
use Rattle.std.proofs.Math.ListN.{replicate}
use Rattle.words.specs.Factors.Factor.{factor_table}
use Rattle.report.specs.Report.{longest, factor_line}
use Rattle.report.proofs.Rows.{table_row}
use Rattle.report.proofs.Told.{not_short, factors_told, told_table}
use Rattle.report.proofs.lines.put_factors.Goals as goal

pub returns-in_err-factors : goal.returns-in_err-factors
returns-in_err-factors c =
    let p = c.requires.0 in
    absurd (not_short _ p longest p.within _ (ap (λ a. a.number) c.in_err-factors.ensures.value))

pub returns : goal.returns
unfolding factor_line
returns c =
    let w = c.args.ring.now in
    let p = c.requires.0 in
    let n = factors_told w p longest p.within _ c.in_ok-factors.ensures.value in
    let t = told_table w p (replicate longest 0) _ p.within (factor_table w) _ n c.factors.ensures.table_after in
    let l = table_row _ (factor_table w) _ _ _ _ t (omega arith) c.put_row.ensures.value c.put_row.ensures.room_after in
    record { value = (ap Ok l.0, l.1); room_after = l.2 }
