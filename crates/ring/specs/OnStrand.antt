-- A letter of a strand where it stands: letter i of the opposite strand is the one that faces letter n - 1 - i.
-- Assumes nothing.
use Rattle.std.specs.Prelude.{cond, ℕ, ◌-◌, eqb}
use Rattle.words.specs.Keys.Facing.{facing}

-- where letter i of a strand stands in a ring of n letters
abbrev pub place_on : ℕ → ℕ → ℕ → ℕ
place_on s n i = cond (eqb s 1) (n - 1 - i) i

-- a letter of the ring as it is read on a strand
abbrev pub shown_on : ℕ → ℕ → ℕ
shown_on s a = cond (eqb s 1) (facing a) a
