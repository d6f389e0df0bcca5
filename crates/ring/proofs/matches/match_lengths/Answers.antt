-- `matches::match_lengths` meets its contract. The invariant is the box of `Rattle.words.proofs.Repeats.Match`.
use Rattle.std.proofs.Common.{rules}
use Rattle.words.proofs.Repeats.Match.{box_new, box_old}
use Rattle.ring.proofs.matches.match_lengths.Goals.{then-r-k, else-r-k}
use Rattle.ring.proofs.matches.match_lengths.Goals as goal

pub loop-k-preserved : goal.loop-k-preserved
loop-k-preserved c =
    let g = c.loop-k.invariant in
    let z = c.extend-z.ensures in
    elim c.if-r-k.branch [
      | then-r-k w ↦ rw (w.l-is, w.r-is) (box_new _ _ _ _ _ _ g (search rules) _ z)
      | else-r-k w ↦ rw (w.l-is, w.r-is) (box_old _ _ _ _ _ _ g (search rules) _ z)
    ]
