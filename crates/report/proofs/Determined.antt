-- Two outcomes of a public call that both meet its contract are equal: the answer, and every lent table or room afterwards.
-- `Post` is the contract itself, as the check reads it from the source: of the arguments, the answer, and what is lent at exit.
-- Assumes nothing.
use mathlib.Core.Path.{◌≡◌}
use Rattle.words.proofs.Order.Search.{promised_one}
use contract.Lifetimes
use borrow.Fn.World
use borrow.Fn.Kinds as Fn
use denote.Triple.Clauses
use Rattle.report.specs.contracts.whole.report
use Rattle.report.proofs.whole.report.Kinds as report-kinds
use Rattle.report.proofs.whole.report.Reads as report-reads

pub report_determined : (κs : Lifetimes.Lfts 2) (a : World.ArgsD report.signature κs) (r s : World.ResD report.signature κs) (e f : Clauses.AtExit (Fn.ended_of 2 report-kinds.ps report-kinds.r) κs)
    → report-reads.Post κs a r e → report-reads.Post κs a s f → (r ≡ s) × (e.1.0.now ≡ f.1.0.now)
report_determined κs a r s e f p q = (promised_one p.0 q.0, promised_one p.1.0 q.1.0)
