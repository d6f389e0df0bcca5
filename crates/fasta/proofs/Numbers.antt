-- Each number is answered exactly when 02 says, with its place, and what a refusal leaves.
-- Assumes nothing.
use mathlib.Core.Path.{◌≡◌, refl, sym, ap, ◌∙◌, subst}
use mathlib.Core.Logic.{◌↔◌}
use mathlib.Core.Bool.{true, false, not, true≢false}
use mathlib.Core.List.{List, [], ◌∷◌, ◌++◌}
use Prim.Native.Nat.{ℕ, ◌<◌}
use native.Mathlib.Omega.{arith}
use borrow.Author.Tests.{not-true}
use lib.ListN.{length}
use Rattle.words.proofs.Order.Search.{by_test}
use Rattle.ring.specs.Judging.{Given}
use Rattle.ring.specs.Demands.{Lent, lent, AsRuled}
use Rattle.ring.proofs.Numbers.{table_ruled}
use Rattle.fasta.specs.Lines.{Line, lines_of, is_header, is_empty, is_letters}
use Rattle.fasta.specs.Parts.{from_header, record_lines, no_line, unheaded, letters_of}
use Rattle.fasta.specs.Answers.{base_kind, record_of, record_room}
use Rattle.fasta.specs.Demands.{no_header, Unheaded, RecordGiven, nothing, judged}
use Rattle.fasta.proofs.Lines.{split_true}

-- ---- 8

unheaded_more : (l : Line) {ls : List Line} → is_header l ≡ false → Unheaded ls → Unheaded (l ∷ ls)
unheaded_more l q (Unheaded.early front back m x y z) = Unheaded.early (l ∷ front) back m (ap (λ t. l ∷ t) x) (rw (q, y)) z
unheaded_more l q (Unheaded.none y) = Unheaded.none (rw (q, y))

untested : (ls : List Line) → no_line (from_header ls) ≡ true → Unheaded ls
untested [] e = Unheaded.none refl
untested (l ∷ ls) e =
    by_test (is_header l) (λ q. absurd (true≢false (sym (rw q at e))))
    (λ q. by_test (is_empty l) (λ r. unheaded_more l q (untested ls (rw (q, r) at e)))
    (λ r. Unheaded.early [] ls l refl refl (rw (q, r))))

no_header_lem : (ls : List Line) → no_header ls ≡ true → no_line (from_header ls) ≡ true
no_header_lem [] e = refl
no_header_lem (l ∷ ls) e =
    let p = split_true (not (is_header l)) (no_header ls) e in
    rw (not-true (is_header l) p.0) (by_test (is_empty l) (λ r. rw r (no_header_lem ls p.1)) (λ r. rw r))

too_early : (front back : List Line) (l : Line) → no_header front ≡ true → is_letters l ≡ true → no_line (from_header (front ++ (l ∷ back))) ≡ true
too_early [] back l e z =
    let p = split_true (not (is_header l)) (not (is_empty l)) z in
    rw (not-true (is_header l) p.0, not-true (is_empty l) p.1)
too_early (m ∷ front) back l e z =
    let p = split_true (not (is_header m)) (no_header front) e in
    rw (not-true (is_header m) p.0) (by_test (is_empty m) (λ r. rw r (too_early front back l p.1 z)) (λ r. rw r))

unheaded_none : {ls : List Line} → Unheaded ls → no_line (from_header ls) ≡ true
unheaded_none (Unheaded.early front back l x y z) = rw x (too_early front back l y z)
unheaded_none {ls} (Unheaded.none y) = no_header_lem ls y

module _ (text : List ℕ) where
  pub tested_unheaded : unheaded text ≡ true → Unheaded (lines_of text)
  unfolding record_lines
  tested_unheaded e = untested (lines_of text) e

  pub unheaded_tested : Unheaded (lines_of text) → unheaded text ≡ true
  unfolding record_lines
  unheaded_tested u = unheaded_none u

  pub headed_tested : (Unheaded (lines_of text) → ⊥) → unheaded text ≡ false
  headed_tested n = by_test (unheaded text) (λ e. absurd (n (tested_unheaded e))) (λ e. e)

  pub tested_headed : unheaded text ≡ false → Unheaded (lines_of text) → ⊥
  tested_headed e u = true≢false (sym (unheaded_tested u) ∙ e)

-- ---- the table

-- the table in other words
ruled_for : {S T : ℕ → ℕ → Type 0} {number place : ℕ} {others : List ℕ} {rooms : List Lent} → ((k i : ℕ) → S k i ↔ T k i)
    → AsRuled S number place others rooms → AsRuled T number place others rooms
ruled_for t a = record {
  exactly = λ k i. ((λ e. (t k i).0 ((a.exactly k i).0 e)), (λ g. (a.exactly k i).1 ((t k i).1 g)));
  refused = a.refused;
  beyond = a.beyond;
}

module _ (text : List ℕ) (size : ℕ) where
  -- 8 with place 0, and no other
  nothing_said : Unheaded (lines_of text) → {k i : ℕ} → (8 ≡ k) × (0 ≡ i) → RecordGiven text size k i
  nothing_said u {k} {i} e = subst (λ x. RecordGiven text size x i) e.0 (subst (RecordGiven text size 8) e.1 (nothing u))

  said_nothing : Unheaded (lines_of text) → {k i : ℕ} → RecordGiven text size k i → (8 ≡ k) × (0 ≡ i)
  said_nothing u (nothing v) = (refl, refl)
  said_nothing u (judged n g) = absurd (n u)

  -- as the letters are judged
  given_judged : (Unheaded (lines_of text) → ⊥) → {k i : ℕ} → RecordGiven text size k i
      → Given base_kind (letters_of text) (size < length (letters_of text)) k i
  given_judged n (nothing u) = absurd (n u)
  given_judged n (judged m g) = g

nothing_ruled : (text room : List ℕ) → Unheaded (lines_of text) → AsRuled (RecordGiven text (length room)) 8 0 (0 ∷ 0 ∷ 0 ∷ []) (lent room room 0 ∷ [])
nothing_ruled text room u = record {
  exactly = λ k i. (nothing_said text (length room) u, said_nothing text (length room) u);
  refused = λ n. ((refl, (refl, (refl, tt))), (refl, tt));
  beyond = λ e. absurd (omega arith);
}

pub record_as_lem : (text room : List ℕ)
    → AsRuled (RecordGiven text (length room)) (record_of text (length room)).number (record_of text (length room)).place
    ((record_of text (length room)).n ∷ (record_of text (length room)).header.offset ∷ (record_of text (length room)).header.size ∷ [])
    (lent room (record_room text room) (record_of text (length room)).n ∷ [])
record_as_lem text room =
    by_test (unheaded text) (λ u. rw u (nothing_ruled text room (tested_unheaded text u)))
    (λ u. let h = tested_headed text u in
    rw u (ruled_for (λ k i. ((λ g. judged h g), given_judged text (length room) h))
    (table_ruled base_kind (letters_of text) (letters_of text) room _ _ (λ p. omega arith) (λ t. rw t (refl, (refl, (refl, tt)))) (λ t. rw t))))
