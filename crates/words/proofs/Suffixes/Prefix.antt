-- The two prefix tables by their entries.
-- Assumes nothing.
use mathlib.Core.Path.{◌≡◌}
use mathlib.Core.List.{List}
use Prim.Native.Nat.{ℕ, suc, ◌<◌}
use lib.ListN.{length, take, drop, get_or}
use Rattle.words.specs.Order.Least.{IsLeast}
use Rattle.words.specs.Rings.Ring.{start}
use Rattle.words.specs.Suffixes.Prefix.{least_suffix, suffix_table, start_table}
use Rattle.words.proofs.Order.Search.{length-tabled, tabled_at}
use Rattle.words.proofs.Rings.Ring.{least_below}

pub least_suffix_is : (w : List ℕ) → 0 < length w → IsLeast (λ i. drop i w) (length w) (least_suffix w)
unfolding least_suffix
least_suffix_is w h = least_below (λ i. drop i w) (length w) h

pub length-suffix_table : (w : List ℕ) → length (suffix_table w) ≡ length w
unfolding suffix_table
length-suffix_table w = length-tabled _ (length w)

pub suffix_table_at : (w : List ℕ) (i : ℕ) → i < length w → get_or (suffix_table w) i 0 ≡ least_suffix (take (suc i) w)
unfolding suffix_table
suffix_table_at w i h = tabled_at _ (length w) i h

pub length-start_table : (w : List ℕ) → length (start_table w) ≡ length w
unfolding start_table
length-start_table w = length-tabled _ (length w)

pub start_table_at : (w : List ℕ) (i : ℕ) → i < length w → get_or (start_table w) i 0 ≡ start (take (suc i) w)
unfolding start_table
start_table_at w i h = tabled_at _ (length w) i h
