-- `suffix::fill_suffixes` meets its contract. The invariant: m is a head, and the entries before it are right.
use Rattle.words.proofs.Suffixes.Prefix.{length-suffix_table}
use Rattle.words.proofs.Suffixes.Fill.{filled_less, filled_all}
use Rattle.ring.proofs.suffix.fill_suffixes.Goals as goal

pub returns : goal.returns
returns c =
    rw length-suffix_table (filled_all _ _ _ (filled_less _ _ _ _ _ c.loop-m.invariant.1 c.loop-m-test.false) c.requires.0)
