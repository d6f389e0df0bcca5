-- The table of bases: an entry for every byte, as a letter line holds it; and the bases of bytes.
-- Assumes nothing.
use Rattle.std.specs.Prelude.{cond, List, [], ◌∷◌, ℕ, ltb}
use Rattle.words.specs.Keys.Kind.{is_letter}
use Rattle.words.specs.Order.Search.{tabled}
use Rattle.fasta.specs.Lines.{upper}
use Rattle.fasta.specs.Answers.{base_kind}

-- the letter that a byte is kept as where that is a letter of a base ring, 0 for every other byte
unfoldable pub base_of : ℕ → ℕ
base_of b = cond (is_letter base_kind (upper b)) (upper b) 0

-- how many values a byte has
abbrev pub bytes : ℕ
bytes = 256

unfoldable pub base_table : List ℕ
base_table = tabled base_of bytes

-- the bases of some bytes; a byte that has none is passed over
abbrev pub bases_in : List ℕ → List ℕ
bases_in [] = []
bases_in (b ∷ t) = cond (ltb 0 (base_of b)) (base_of b ∷ bases_in t) (bases_in t)
