-- The text that remains: it is shorter than the text, and it is empty or begins with a header.
-- Assumes nothing.
use mathlib.Core.Path.{◌≡◌, refl, sym, ap, ◌∙◌}
use mathlib.Core.Logic.{◌⊎◌, inl, inr}
use mathlib.Core.Bool.{true, false, true≢false}
use mathlib.Core.List.{List, [], ◌∷◌, ◌++◌}
use Prim.Native.Nat.{ℕ, ◌<◌}
use native.Mathlib.Omega.{arith}
use lib.ListN.{length, drop}
use Rattle.words.proofs.Order.Search.{by_test, either}
use Rattle.fasta.specs.Lines.{mark, Line, lines_of, joined, first_body, begins}
use Rattle.fasta.specs.Parts.{from_header, beyond, record_lines, no_line, unheaded, header_of, rest_of, header_at, rest_at}
use Rattle.fasta.specs.Demands.{Next}
use Rattle.fasta.proofs.Lines.{first_begins}
use Rattle.fasta.proofs.Layouts.{layout_of, beyond_next}
use Rattle.fasta.proofs.Places.{laid_fewer}

-- ---- no record: nothing remains

no_line_lem : (ls : List Line) → no_line ls ≡ true → ls ≡ []
no_line_lem [] e = refl
no_line_lem (l ∷ ls) e = absurd (true≢false (sym e))

module _ (text : List ℕ) (u : unheaded text ≡ true) where
  pub none_header : header_of text ≡ []
  unfolding header_of
  none_header = rw (no_line_lem (record_lines text) u)

  pub none_rest : rest_of text ≡ []
  unfolding rest_of
  none_rest = rw (no_line_lem (record_lines text) u)

  pub none_header_at : header_at text ≡ 0
  unfolding header_at
  none_header_at = rw u

  pub none_rest_at : rest_at text ≡ 0
  unfolding rest_at
  none_rest_at = rw u

-- ---- it is shorter

pub rest_fewer : (text : List ℕ) → 0 < length text → length (rest_of text) < length text
rest_fewer text h = by_test (unheaded text) (λ u. rw (none_rest text u) h) (λ u. laid_fewer (layout_of text u))

-- ---- it is empty, or begins with a header

begins-append : (a : ℕ) (s t : List ℕ) → begins a s ≡ true → begins a (s ++ t) ≡ true
begins-append a [] t e = absurd (true≢false (sym e))
begins-append a (b ∷ s) t e = e

next_joined : (ls : List Line) → Next ls → (joined ls ≡ []) ⊎ (begins mark (joined ls) ≡ true)
next_joined [] n = inl refl
next_joined (l ∷ ls) n =
    either n (λ e. absurd (omega (arith, ap length e)))
    (λ e. inr (begins-append mark (l.body ++ l.ending) (joined ls) (begins-append mark l.body l.ending e)))

pub rest_begins : (text : List ℕ) → (rest_of text ≡ []) ⊎ (begins mark (rest_of text) ≡ true)
unfolding rest_of
rest_begins text = next_joined (beyond (drop 1 (record_lines text))) (beyond_next (drop 1 (record_lines text)))

-- and then it has a record
opened : (ls : List Line) → begins mark (first_body ls) ≡ true → no_line (from_header ls) ≡ false
opened [] e = absurd (true≢false (sym e))
opened (l ∷ ls) e = rw e

pub rest_tested : (text : List ℕ) → 0 < length (rest_of text) → unheaded (rest_of text) ≡ false
unfolding record_lines
rest_tested text h =
    either (rest_begins text) (λ e. absurd (omega (arith, ap length e)))
    (λ e. opened (lines_of (rest_of text)) (first_begins (rest_of text) ∙ e))
