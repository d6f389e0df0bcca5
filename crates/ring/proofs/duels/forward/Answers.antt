-- `ring::duels::forward` meets its contract.
use Rattle.words.proofs.Duels.Beaten.{forward_on, forward_off}
use Rattle.ring.proofs.duels.forward.Goals as goal

pub returns-then-b-a-clause-value : goal.returns-then-b-a-clause-value
returns-then-b-a-clause-value c = forward_on _ _ _ _ c.if-b-a.true

pub returns-else-b-a-clause-value : goal.returns-else-b-a-clause-value
returns-else-b-a-clause-value c = forward_off _ _ _ _ c.if-b-a.false
