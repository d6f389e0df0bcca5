-- `ring::kind::letter_table` meets its contract, by computation.
use Rattle.std.proofs.Common.{refl}
use Rattle.words.specs.Keys.Letter.{is_iupac}
use Rattle.ring.specs.Letters.{letter_bits, letter_table}
use Rattle.ring.proofs.kind.letter_table.Goals as goal

pub returns : goal.returns
unfolding letter_table letter_bits is_iupac
returns c = refl
