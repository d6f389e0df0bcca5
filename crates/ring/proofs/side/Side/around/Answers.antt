-- `ring::side::Side::around` meets its contract: below n the letter itself, from n on the one n places back.
use Rattle.std.proofs.Common.{sym, ◌∙◌, arith}
use Rattle.words.proofs.Rings.Turn.{around_in, around_out}
use Rattle.ring.proofs.side.Side.around.Goals as goal

pub returns-then-i-n : goal.returns-then-i-n
returns-then-i-n c = c.letter.ensures ∙ sym (around_in _ _ (omega arith))

pub returns : goal.returns
returns c = c.letter-2.ensures ∙ rw c.len-n.ensures.value (sym (around_out _ _ (omega arith) c.requires))
