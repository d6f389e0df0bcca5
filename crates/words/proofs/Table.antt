-- The definitions give each row of the table.
-- Assumes nothing.
use mathlib.Core.Path.{◌≡◌, refl}
use mathlib.Core.List.{[], ◌∷◌, map}
use Rattle.words.specs.Rings.Ring.{reading, around, start, lowest}
use Rattle.words.specs.Keys.Strand.{opposite, strand, key_start, key}
use Rattle.words.specs.Factors.Factor.{longest, factors, factor_table}
use Rattle.words.specs.Suffixes.Prefix.{least_suffix, suffix_table, start_table}
use Rattle.words.specs.Keys.Letter.{A, C, G, T}
use Rattle.words.specs.Keys.Kind.{stranded}
use Rattle.words.specs.Keys.Facing.{facing_table, facing}
use Rattle.words.specs.Repeats.Repeat.{repeat}
use Rattle.words.specs.Duels.Duel.{duels, pairs, meet, forward, lower, upper}
use Rattle.words.specs.Table.{answered, rows}

-- the definitions give each row of the table
pub table : map (λ r. answered r.ring) rows ≡ rows
unfolding reading around start lowest stranded facing_table facing opposite strand key_start key longest factors factor_table duels meet forward lower upper
table = refl

-- what 01 says besides of GATTACA, and 02 of the repeats of ACGAC and ACAC and of the pairs of AA
pub also : ((suffix_table (G ∷ A ∷ T ∷ T ∷ A ∷ C ∷ A ∷ []) ≡ 0 ∷ 1 ∷ 1 ∷ 1 ∷ 4 ∷ 4 ∷ 6 ∷ [])
    × (start_table (G ∷ A ∷ T ∷ T ∷ A ∷ C ∷ A ∷ []) ≡ 0 ∷ 1 ∷ 1 ∷ 1 ∷ 4 ∷ 4 ∷ 4 ∷ [])
    × (repeat (G ∷ A ∷ T ∷ T ∷ A ∷ C ∷ A ∷ []) ≡ 7)
    × (repeat (A ∷ C ∷ G ∷ A ∷ C ∷ []) ≡ 5)
    × (repeat (A ∷ C ∷ A ∷ C ∷ []) ≡ 2)
    × (pairs (A ∷ A ∷ []) ≡ 2))
unfolding reading around duels pairs meet forward lower upper start least_suffix suffix_table start_table repeat
also = (refl, refl, refl, refl, refl, refl)
