-- What `find` answers: 8 alone declines, the parts are those of the record, and `record` answers the same.
-- Assumes nothing.
use mathlib.Core.Path.{◌≡◌, refl, ◌∙◌, subst}
use mathlib.Core.Bool.{true, false}
use mathlib.Core.List.{List, [], ◌∷◌}
use Prim.Native.Nat.{ℕ}
use native.Mathlib.Omega.{arith}
use borrow.Author.Tests.{eq-eqb}
use Rattle.words.proofs.Order.Search.{by_test}
use Rattle.ring.specs.Demands.{AsRuled}
use Rattle.fasta.specs.declared.answer.Found.{Found}
use Rattle.fasta.specs.declared.answer.Record.{Record}
use Rattle.fasta.specs.Lines.{lines_of}
use Rattle.fasta.specs.Parts.{unheaded}
use Rattle.fasta.specs.Answers.{at_front, header_part, rest_part, found_of}
use Rattle.fasta.specs.Calls.{FindCall, RecordCall}
use Rattle.fasta.specs.Demands.{Unheaded, FoundGiven, absent, found}
use Rattle.fasta.proofs.Remains.{none_header, none_rest, none_header_at, none_rest_at}
use Rattle.fasta.proofs.Numbers.{tested_unheaded, tested_headed}

module _ (text : List ℕ) where
  -- no record, or a record
  found_none : unheaded text ≡ true → found_of text ≡ record { number = 8; place = 0; header = at_front; rest = at_front }
  found_none u = simp u

  found_some : unheaded text ≡ false → found_of text ≡ record { number = 0; place = 0; header = header_part text; rest = rest_part text }
  found_some u = simp u

  -- where the parts stand that `header` and `rest` hand back
  pub found_parts : {f : Found} → f ≡ found_of text → (f.header ≡ header_part text) × (f.rest ≡ rest_part text)
  found_parts e =
      by_test (unheaded text)
      (λ u. rw (e ∙ found_none u, none_header text u, none_header_at text u, none_rest text u, none_rest_at text u) (refl, refl))
      (λ u. rw (e ∙ found_some u) (refl, refl))

  -- ---- the table

  said_absent : Unheaded (lines_of text) → {k i : ℕ} → FoundGiven text k i → (8 ≡ k) × (0 ≡ i)
  said_absent u (absent v) = (refl, refl)
  said_absent u (found n) = absurd (n u)

  said_found : (Unheaded (lines_of text) → ⊥) → {k i : ℕ} → FoundGiven text k i → (0 ≡ k) × (0 ≡ i)
  said_found n (absent u) = absurd (n u)
  said_found n (found m) = (refl, refl)

  -- a number and a place that are given are the only ones
  given_as : {k i : ℕ} → FoundGiven text k i → {l j : ℕ} → (k ≡ l) × (i ≡ j) → FoundGiven text l j
  given_as {k} {i} g {l} {j} e = subst (λ x. FoundGiven text x j) e.0 (subst (FoundGiven text k) e.1 g)

  pub found_as : {f : Found} → f ≡ found_of text
      → AsRuled (FoundGiven text) f.number f.place (f.header.offset ∷ f.header.size ∷ f.rest.offset ∷ f.rest.size ∷ []) []
  found_as e =
      by_test (unheaded text)
      (λ u. let v = tested_unheaded text u in
      rw (e ∙ found_none u) (record {
        exactly = λ k i. (given_as (absent v), said_absent v);
        refused = λ n. ((refl, (refl, (refl, (refl, tt)))), tt);
        beyond = λ e. tt;
      }))
      (λ u. let h = tested_headed text u in
      rw (e ∙ found_some u) (record { exactly = λ k i. (given_as (found h), said_found h); refused = λ n. absurd (n refl); beyond = λ e. tt }))

-- ---- `record` answers the same parts

pub same_parts : {text room left : List ℕ} {r : Record} {f : Found} → RecordCall text room r left → FindCall text f
    → (r.rest ≡ f.rest) × (r.number ≡ 0 → r.header ≡ f.header)
same_parts {text} c d =
    by_test (unheaded text) (λ u. rw (c.answer, d.answer ∙ found_none text u, u) (refl, (λ z. absurd (omega arith))))
    (λ u. rw (c.answer, d.answer ∙ found_some text u, u) (refl, (λ z. rw (eq-eqb _ 0 z))))
