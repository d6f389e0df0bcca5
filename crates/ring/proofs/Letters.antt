-- The table of letters at each byte, and what its bits tell.
-- Assumes nothing.
use mathlib.Core.Path.{◌≡◌, refl}
use mathlib.Core.Bool.{Bool, true, false, cond, not}
use mathlib.Core.List.{List}
use Prim.Native.Nat.{ℕ, ◌<◌, ◌+◌}
use lib.Bits.{bit_and}
use lib.Dec.{eqb}
use lib.ListN.{get_or}
use Rattle.words.specs.Keys.Letter.{is_base, is_iupac}
use Rattle.words.specs.Keys.Facing.{bytes}
use Rattle.words.proofs.Order.Search.{tabled_at}
use Rattle.ring.specs.Letters.{base_bit, iupac_bit, letter_bits, letter_table}

-- a bit is set
abbrev has : ℕ → ℕ → Bool
has bits bit = not (eqb (bit_and bits bit) 0)

-- of two bits, each tells one test
two_bits : (s t : Bool)
    → (has (cond s base_bit 0 + cond t iupac_bit 0) base_bit ≡ s) × (has (cond s base_bit 0 + cond t iupac_bit 0) iupac_bit ≡ t)
two_bits true true = (refl, refl)
two_bits true false = (refl, refl)
two_bits false true = (refl, refl)
two_bits false false = (refl, refl)

module _ (table : List ℕ) (a : ℕ) (e : table ≡ letter_table) (h : a < bytes) where
  pub bits_at : get_or table a 0 ≡ letter_bits a
  unfolding letter_table
  bits_at = rw e (tabled_at letter_bits bytes a h)

  pub base-told : has (get_or table a 0) base_bit ≡ is_base a
  unfolding letter_bits
  base-told = rw bits_at (two_bits (is_base a) (is_iupac a)).0

  pub iupac_told : has (get_or table a 0) iupac_bit ≡ is_iupac a
  unfolding letter_bits
  iupac_told = rw bits_at (two_bits (is_base a) (is_iupac a)).1
