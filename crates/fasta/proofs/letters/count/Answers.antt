-- What the loop of `fasta::letters::count` keeps as it begins and behind each byte, by `Counting`.
-- Assumes nothing.
use Rattle.std.proofs.Common.{sym, ◌∙◌}
use Rattle.std.proofs.lemmas.List.{take_rest}
use Rattle.fasta.proofs.Bases.{found_some, found_none}
use Rattle.fasta.proofs.Counting.{count_first, count_base, count_other, count_on, count_turn, bases_end_here, bases_end_on}
use Rattle.fasta.proofs.letters.count.Goals as goal
use Rattle.fasta.proofs.letters.count.Goals.{then-is_some, else-is_some+then-is_kept, else-is_some+else-is_kept+else-header_follows}

pub loop-i-init : goal.loop-i-init
loop-i-init c = (count_first _, bases_end_here _ 0)

pub returns-then-header_follows-clause-letters : goal.returns-then-header_follows-clause-letters
returns-then-header_follows-clause-letters c =
    let z = found_none _ _ c.look_up.ensures (sym c.is_some.ensures ∙ c.if-is_some.false) in
    let q = rw take_rest at (sym c.is_kept.ensures ∙ c.if-is_kept.false) in
    count_turn _ _ _ _ c.loop-i.invariant.0 c.loop-i-test.true z q (rw take_rest at (sym c.header_follows.ensures ∙ c.if-header_follows.true))

pub returns-then-header_follows-clause-bases_end : goal.returns-then-header_follows-clause-bases_end
returns-then-header_follows-clause-bases_end c =
    bases_end_on _ _ _ c.loop-i.invariant.1 c.loop-i-test.true (found_none _ _ c.look_up.ensures (sym c.is_some.ensures ∙ c.if-is_some.false))

pub loop-i-preserved : goal.loop-i-preserved
loop-i-preserved c =
    elim c.if-is_some.branch [
      | then-is_some w ↦
          rw (w.n-is, w.other-is, w.end-is)
          (count_base _ _ _ _ c.loop-i.invariant.0 c.loop-i-test.true (found_some _ _ c.look_up.ensures (sym c.is_some.ensures ∙ w.if-is_some.true)), bases_end_here _ _)
      | else-is_some+then-is_kept w ↦
          let z = found_none _ _ c.look_up.ensures (sym c.is_some.ensures ∙ w.if-is_some.false) in
          let q = rw take_rest at (sym w.is_kept.ensures ∙ w.if-is_kept.true) in
          rw (w.n-is, w.end-is)
          (count_other _ _ _ _ c.loop-i.invariant.0 c.loop-i-test.true z q _ (w.other-is ∙ w.or-other.ensures), bases_end_on _ _ _ c.loop-i.invariant.1 c.loop-i-test.true z)
      | else-is_some+else-is_kept+else-header_follows w ↦
          let z = found_none _ _ c.look_up.ensures (sym c.is_some.ensures ∙ w.if-is_some.false) in
          let q = rw take_rest at (sym w.is_kept.ensures ∙ w.if-is_kept.false) in
          rw (w.n-is, w.other-is, w.end-is) (
            count_on _ _ _ _ c.loop-i.invariant.0 c.loop-i-test.true z q (rw take_rest at (sym w.header_follows.ensures ∙ w.if-header_follows.false)),
            bases_end_on _ _ _ c.loop-i.invariant.1 c.loop-i-test.true z,
          )
    ]
