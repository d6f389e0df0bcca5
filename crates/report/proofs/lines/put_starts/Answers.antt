-- The call does not decline, and the front of the table is the start table.
use Rattle.std.proofs.Common.{Ok, ap, sym, arith}
use Rattle.std.proofs.Math.ListN.{replicate}
use Rattle.words.specs.Suffixes.Prefix.{start_table}
use Rattle.words.proofs.Suffixes.Prefix.{length-start_table}
use Rattle.report.specs.Report.{longest, start_line}
use Rattle.report.proofs.Rows.{table_row}
use Rattle.report.proofs.Told.{not_short, told_table}
use Rattle.report.proofs.lines.put_starts.Goals as goal

pub returns-in_err-starts : goal.returns-in_err-starts
returns-in_err-starts c =
    let p = c.requires.0 in
    absurd (not_short _ p longest p.within _ (ap (λ a. a.number) c.in_err-starts.ensures.value))

pub returns : goal.returns
unfolding start_line
returns c =
    let w = c.args.ring.now in
    let p = c.requires.0 in
    let t = told_table w p (replicate longest 0) _ p.within (start_table w) _ (sym (length-start_table w)) c.starts.ensures.table_after in
    let l = table_row _ (start_table w) _ _ _ _ t (omega arith) c.put_row.ensures.value c.put_row.ensures.room_after in
    record { value = (ap Ok l.0, l.1); room_after = l.2 }
