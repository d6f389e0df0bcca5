-- A byte of a text and what stands behind it, from what the code's tests showed.
-- Assumes nothing.
use mathlib.Core.Path.{◌≡◌, sym, ◌∙◌}
use mathlib.Core.Bool.{true, false, true≢false}
use mathlib.Core.List.{List}
use Prim.Native.Nat.{ℕ, ◌<◌}
use native.Mathlib.Omega.{arith}
use borrow.Author.Tests.{ne_eqb}
use lib.Dec.{eqb}
use Rattle.words.proofs.Order.Search.{by_test}
use Rattle.fasta.specs.Lines.{lf, cr, space, tab, is_blank}
use Rattle.fasta.specs.Scan.{ends, keeps, turns}
use Rattle.fasta.proofs.Lines.{ends-lf, keeps_end, turns_other}

module _ (b : ℕ) (t : List ℕ) where
  pub keep_high : space < b → true ≡ keeps b t
  unfolding keeps is_blank ends
  keep_high h = rw (ne_eqb b space (λ q. omega arith), ne_eqb b tab (λ q. omega arith), ne_eqb b lf (λ q. omega arith), ne_eqb b cr (λ q. omega arith))

  -- a byte that is kept ends no line
  pub keeps-turns : keeps b t ≡ true → turns b t ≡ false
  keeps-turns k = by_test (eqb b lf) (λ e. absurd (true≢false (sym k ∙ keeps_end b t (ends-lf b t e)))) (λ e. turns_other b t e)
