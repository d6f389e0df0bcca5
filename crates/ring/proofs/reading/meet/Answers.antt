-- `ring::reading::meet` meets its contract: the letters agree up to k.
use Rattle.std.proofs.Common.{sym, ◌∙◌, arith}
use Rattle.ring.proofs.reading.meet.Goals as goal

pub returns-then-around : goal.returns-then-around
returns-then-around c = (
  record { within = omega arith; agree = c.loop-k.invariant; differs = λ n e. c.if-around.true (c.around.ensures ∙ e ∙ sym c.around-in-loop-k.ensures) },
  omega arith,
)

pub returns : goal.returns
returns c = (record { within = omega arith; agree = λ j h. c.loop-k.invariant j (omega arith); differs = λ n. absurd (omega arith) }, omega arith)
