-- `start_table::flag_heads` meets its contract. The invariant: the heads so far are flagged.
use Rattle.std.proofs.Common.{◌≡◌, ℕ, ◌-◌, List, length, take, drop, arith, rules, length-drop}
use lib.Seq.{take_all}
use Rattle.words.specs.Factors.Factor.{FirstRun}
use Rattle.words.proofs.Factors.Factor.{run_within}
use Rattle.words.proofs.Starts.StartTable.{flagging_none, flagging_next, flagged_head, run_some}
use Rattle.ring.specs.Judging.{most}
use Rattle.ring.proofs.start_table.flag_heads.Goals as goal

-- the letters lent to a run's scan are those from `m` on
lent : (w s : List ℕ) (m p e : ℕ) → s ≡ take (length w - m) (drop m w) → FirstRun s p e → FirstRun (drop m w) p e
lent w s m p e h r = rw (h, take_all (length w - m) (drop m w) (omega (arith, length-drop m w))) at r

pub loop-m-init : goal.loop-m-init
loop-m-init c = flagging_none most _ _

pub overflow_add-m : goal.overflow_add-m
overflow_add-m c = let r = lent c.args.w.now _ _ _ _ c.given.ensures.value c.first_run-m.ensures in omega (arith, run_within _ _ _ r, length-drop c.loop-m.m c.args.w.now)

pub loop-m-smaller : goal.loop-m-smaller
loop-m-smaller c = omega (arith, run_some _ _ _ c.first_run-m.ensures)

pub loop-m-preserved : goal.loop-m-preserved
loop-m-preserved c =
    let a = c.requires in
    let r = lent c.args.w.now _ _ _ _ c.given.ensures.value c.first_run-m.ensures in
    flagging_next most _ _ _ _ a.2 a.0 (search rules) c.loop-m.invariant a.1 _ _ r

pub returns : goal.returns
returns c =
    let i = c.loop-m.invariant in
    let e : c.loop-m.m ≡ length c.args.w.now = omega (arith, (flagged_head i.flags).within) in (rw e at i.flags, i.kept)
