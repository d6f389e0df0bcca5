-- The table of letters: an entry for every byte, with a bit for each kind that does not take every byte for a letter.
-- Assumes nothing.
use Rattle.std.specs.Prelude.{cond, List, ℕ, ◌+◌}
use Rattle.words.specs.Order.Search.{tabled}
use Rattle.words.specs.Keys.Letter.{is_base, is_iupac}
use Rattle.words.specs.Keys.Facing.{bytes}

-- the bits of kind 1 and of kind 2
abbrev pub base_bit : ℕ
base_bit = 1

abbrev pub iupac_bit : ℕ
iupac_bit = 2

unfoldable pub letter_bits : ℕ → ℕ
letter_bits a = cond (is_base a) base_bit 0 + cond (is_iupac a) iupac_bit 0

unfoldable pub letter_table : List ℕ
letter_table = tabled letter_bits bytes
