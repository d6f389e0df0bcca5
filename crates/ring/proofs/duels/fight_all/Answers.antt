-- `ring::duels::fight_all` meets its contract. The invariants are the laws of `Rattle.words.proofs.Duels.Duel`: a run of duels, and letters that agree.
use Rattle.std.proofs.Common.{◌+◌, ◌<◌, ◌≤◌, length, sym, ◌∙◌, ap, arith}
use Rattle.words.specs.Duels.Duel.{start_of}
use Rattle.words.specs.Duels.Paired.{Met}
use Rattle.words.proofs.Duels.Duel.{Run, run_first, run_out, run_same, run_moved}
use Rattle.ring.proofs.duels.fight_all.Goals.{then-k-n, else-k-n+then-around}
use Rattle.ring.proofs.duels.fight_all.Goals as goal

-- behind the call of `moved`: a duel ended at a differing pair, so what the outer loop comes to is a run, with the positions further on
next_at : (c : goal.After-moved-at)
    → Run c.given-side.result c.moved-at.result.p c.moved-at.result.q (c.duels.read + (c.if-k-n.met + 1))
    × (c.duels.at.p + c.duels.at.q < c.moved-at.result.p + c.moved-at.result.q)
next_at c =
    let i = c.scan.invariant in
    let m : Met c.given-side.result c.given-side.result c.duels.at.p c.duels.at.q c.if-k-n.met =
    elim c.if-k-n.branch [
      | then-k-n w ↦ absurd (omega (arith, w.met-is, c.if-met-n.false))
      | else-k-n+then-around w ↦ rw w.met-is (record { within = omega arith; agree = i.1; differs = λ n e. w.if-around.true (w.around.ensures ∙ e ∙ sym w.around-in-scan.ensures) })
    ] in
    run_moved _ (omega arith) _ _ _ c.duels.invariant (omega arith) _ (omega (arith, m.within)) m _ _ _ _
    c.around-in-duels.ensures c.around-in-duels-2.ensures c.moved-at.ensures

pub duels-init : goal.duels-init
duels-init c = run_first _ (omega arith)

pub duels-smaller : goal.duels-smaller
duels-smaller c = omega (arith, (next_at c).1)

pub duels-preserved : goal.duels-preserved
duels-preserved c = (next_at c).0

pub returns-then-n-q : goal.returns-then-n-q
returns-then-n-q c =
    let a = rw c.given-side.ensures.value at (run_out _ (omega arith) _ _ _ c.duels.invariant (omega arith)) in (sym (ap start_of a.ended), a.pairs)

pub returns-then-met-n : goal.returns-then-met-n
returns-then-met-n c =
    let i = c.scan.invariant in
    let k : length c.args.ring.now ≤ c.scan.k = elim c.if-k-n.branch [ then-k-n w ↦ omega arith | else-k-n+then-around w ↦ omega arith ] in
    let a = rw c.given-side.ensures.value at (run_same _ (omega arith) _ _ _ c.duels.invariant (omega arith) (λ j h. i.1 j (omega arith))) in
    (sym (ap start_of a.ended), a.pairs)
