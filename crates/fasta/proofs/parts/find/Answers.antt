-- `fasta::parts::find` where no header is found, and where both parts stand, by `Replies`.
-- Assumes nothing.
use Rattle.std.proofs.lemmas.List.{take_rest}
use Rattle.fasta.proofs.Replies.{none_found, stands_behind, says_found}
use Rattle.fasta.proofs.parts.find.Goals as goal

pub returns-in_err-head : goal.returns-in_err-head
returns-in_err-head c = rw c.from_residual.ensures (none_found _ c.in_err-head.ensures)

pub returns : goal.returns
returns c =
    let g = c.in_ok-head.ensures in
    let n = rw take_rest at c.next_header.ensures in
    rw c.part.ensures (says_found _ _ _ g _ (stands_behind _ _ _ _ g.found.within n))
