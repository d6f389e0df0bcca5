-- 01's and 02's examples of what is printed, by computation.
-- Assumes nothing.
use mathlib.Core.Path.{◌≡◌, refl}
use mathlib.Core.List.{List, [], ◌∷◌}
use Prim.Native.Nat.{ℕ}
use Rattle.words.specs.Keys.Kind.{stranded}
use Rattle.words.specs.Keys.Facing.{facing_table, facing}
use Rattle.words.specs.Rings.Ring.{reading, around, start, lowest}
use Rattle.words.specs.Keys.Strand.{opposite, strand, key_start, key}
use Rattle.words.specs.Factors.Factor.{longest, factors, factor_table}
use Rattle.words.specs.Suffixes.Prefix.{least_suffix, suffix_table, start_table}
use Rattle.words.specs.Repeats.Repeat.{repeat}
use Rattle.words.specs.Duels.Duel.{duels, pairs, meet, forward, lower, upper}
use Rattle.ring.specs.Judging.{verdict}
use Rattle.report.specs.Decimal.{decimal}
use Rattle.report.specs.Report.{head_line, factor_line, suffix_line, start_line, key_line, five_lines, report_of}

-- "0 7 4 7 9", "0 1 4 6", "0 1 1 1 4 4 6", "0 1 1 1 4 4 4", "1 3 AATCTGT", for GATTACA and a line feed
abbrev gattaca : List ℕ
gattaca =
    48 ∷ 32 ∷ 55 ∷ 32 ∷ 52 ∷ 32 ∷ 55 ∷ 32 ∷ 57 ∷ 10
    ∷ 48 ∷ 32 ∷ 49 ∷ 32 ∷ 52 ∷ 32 ∷ 54 ∷ 10
    ∷ 48 ∷ 32 ∷ 49 ∷ 32 ∷ 49 ∷ 32 ∷ 49 ∷ 32 ∷ 52 ∷ 32 ∷ 52 ∷ 32 ∷ 54 ∷ 10
    ∷ 48 ∷ 32 ∷ 49 ∷ 32 ∷ 49 ∷ 32 ∷ 49 ∷ 32 ∷ 52 ∷ 32 ∷ 52 ∷ 32 ∷ 52 ∷ 10
    ∷ 49 ∷ 32 ∷ 51 ∷ 32 ∷ 65 ∷ 65 ∷ 84 ∷ 67 ∷ 84 ∷ 71 ∷ 84 ∷ 10 ∷ []

pub report_gattaca : report_of (71 ∷ 65 ∷ 84 ∷ 84 ∷ 65 ∷ 67 ∷ 65 ∷ 10 ∷ []) ≡ gattaca
unfolding stranded reading around start lowest facing_table facing opposite strand key_start key longest factors factor_table least_suffix suffix_table start_table repeat duels pairs meet forward lower upper verdict decimal head_line factor_line suffix_line start_line key_line five_lines
report_gattaca = refl

-- "ACGAC gives 5, ACAC 2 .. in `ringline` too" (02, request 2): "0 5 3 5 6", "0 4 0 2 5"
pub head_acgac : head_line (65 ∷ 67 ∷ 71 ∷ 65 ∷ 67 ∷ []) ≡ 48 ∷ 32 ∷ 53 ∷ 32 ∷ 51 ∷ 32 ∷ 53 ∷ 32 ∷ 54 ∷ 10 ∷ []
unfolding reading around start repeat duels pairs meet forward lower upper decimal head_line
head_acgac = refl

pub head_acac : head_line (65 ∷ 67 ∷ 65 ∷ 67 ∷ []) ≡ 48 ∷ 32 ∷ 52 ∷ 32 ∷ 48 ∷ 32 ∷ 50 ∷ 32 ∷ 53 ∷ 10 ∷ []
unfolding reading around start repeat duels pairs meet forward lower upper decimal head_line
head_acac = refl

-- "GAN gives 3 2"
pub report_gan : report_of (71 ∷ 65 ∷ 78 ∷ []) ≡ 51 ∷ 32 ∷ 50 ∷ 10 ∷ []
unfolding verdict decimal
report_gan = refl
