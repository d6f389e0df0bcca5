-- What a call answers by its verdict: the number and place of a refusal, or what was found.
-- Assumes nothing.
use mathlib.Core.Path.{◌≡◌}
use mathlib.Core.List.{List}
use Prim.Native.Nat.{ℕ}
use lib.ListN.{length}
use Rattle.words.specs.Factors.Factor.{factor_table, lowest_entry}
use Rattle.words.specs.Repeats.Repeat.{repeat}
use Rattle.ring.specs.Verdict.{Verdict}
use Rattle.ring.specs.Verdict.{Taken}
use Rattle.ring.specs.declared.answer.Factored.{Factored}
use Rattle.ring.specs.declared.answer.Repeated.{Repeated}
use Rattle.ring.specs.Answers.{factored_as, repeated_as}

-- ---- a ring that is taken

module _ (w : List ℕ) (a : Verdict) (e : a ≡ Taken) where
  pub factored_done : (c s : ℕ) → c ≡ length (factor_table w) → s ≡ lowest_entry w (factor_table w) → ◌≡◌ {A = Factored} (record { number = 0; place = 0; count = c; start = s }) (factored_as a w)
  factored_done c s x y = rw (e, x, y)

  pub repeated_done : (r : ℕ) → r ≡ repeat w → ◌≡◌ {A = Repeated} (record { number = 0; place = 0; repeat = r }) (repeated_as a w)
  repeated_done r x = rw (e, x)
