-- Each number of 01's table is given exactly when 01 says, with its place; and what that makes of a call with these rules.
-- Assumes nothing.
use mathlib.Core.Path.{◌≡◌, refl, sym, ap, subst}
use mathlib.Core.Logic.{◌↔◌, inl, inr}
use mathlib.Core.Bool.{Bool, true, false, true≢false}
use mathlib.Core.List.{List, [], ◌∷◌}
use Prim.Native.Nat.{ℕ, ◌≤◌, ◌<◌}
use native.Mathlib.Omega.{arith}
use borrow.Author.Tests.{lt-ltb, ltb-true, ltb-false, eq-eqb, ne_eqb}
use lib.Dec.{ltb}
use lib.ListN.{length, drop, length-append, length-drop}
use lib.Seq.{drop_at}
use Rattle.words.specs.Keys.Kind.{stranded}
use Rattle.words.proofs.Order.Search.{by_test, either}
use Rattle.ring.specs.Verdict.{Verdict}
use Rattle.ring.specs.Judging.{Permitted, first_bad, number_of, place_of, taken, verdict, after, Given, unknown, none, many, letter, lacking, done}
use Rattle.ring.specs.Answers.{fewer, rooms_short}
use Rattle.ring.specs.Demands.{Lent, lent, Zeros, AsLent, Beyond, AsRuled, LacksRoom}
use Rattle.ring.proofs.Judging.{says_kind, says_empty, says_long, says_letter}
use Rattle.ring.proofs.Exactly.{bad_is, given, taken_is, taken_permitted, permitted_taken, permitted_short}

-- the table with 4 in other words
given_for : (kind : ℕ) (w : List ℕ) {P Q : Type 0} → P ↔ Q → {k i : ℕ} → Given kind w P k i → Given kind w Q k i
given_for kind w t (unknown k) = unknown k
given_for kind w t (none k e) = none k e
given_for kind w t (many k l) = many k l
given_for kind w t (letter k m i h b g) = letter k m i h b g
given_for kind w t (lacking p l) = lacking p (t.0 l)
given_for kind w t (done p n) = done p (λ l. n (t.1 l))

-- ---- a call whose test `short` tells whether a needed table or room has too few entries

module _ (kind : ℕ) (w : List ℕ) (short : Bool) {Lacks : Type 0} (tells : (short ≡ true) ↔ Lacks) where
  -- number k is said, with place i
  abbrev Says : ℕ → ℕ → Type 0
  Says k i = (number_of (verdict kind w short) ≡ k) × (place_of (verdict kind w short) ≡ i)

  told : {v : Verdict} → verdict kind w short ≡ v → Says (number_of v) (place_of v)
  told e = (ap number_of e, ap place_of e)

  given_said : {k i : ℕ} → Given kind w Lacks k i → Says k i
  given_said (unknown k) = told (says_kind kind w short k)
  given_said (none k e) = told (says_empty kind w short k e)
  given_said (many k l) = told (says_long kind w short k (λ z. omega (arith, l)) l)
  given_said (letter k m i h b g) =
      let e : first_bad kind w ≡ i = bad_is kind w i h b g in
      told (says_letter kind w short k (λ z. omega (arith, h)) m i (sym e) h)
  given_said (lacking p l) = told (permitted_short kind w short p (tells.1 l))
  given_said (done p n) = told (permitted_taken kind w short p (by_test short (λ t. absurd (n (tells.0 t))) (λ t. t)))

  said_given : {k i : ℕ} → Says k i → Given kind w Lacks k i
  said_given {k} {i} e =
      subst (λ x. Given kind w Lacks x i) e.0 (subst (Given kind w Lacks (number_of (verdict kind w short))) e.1 (given_for kind w tells (given kind w short)))

  -- a number and a place are said exactly when they are given
  pub given_exactly : (k i : ℕ) → Says k i ↔ Given kind w Lacks k i
  given_exactly k i = (said_given, given_said)

  -- such a call obeys the table: its number and place are the verdict's, and so are what it leaves on refusal and what it is done with
  pub ruled : (others : List ℕ) (rooms : List Lent) → (taken (verdict kind w short) ≡ false → Zeros others × AsLent rooms)
      → (taken (verdict kind w short) ≡ true → Beyond rooms)
      → AsRuled (Given kind w Lacks) (number_of (verdict kind w short)) (place_of (verdict kind w short)) others rooms
  ruled others rooms r d = record {
    exactly = given_exactly;
    refused = λ n. r (ne_eqb (number_of (verdict kind w short)) 0 n);
    beyond = λ e. d (eq-eqb (number_of (verdict kind w short)) 0 e);
  }

-- ---- 4 in the calls' own terms

-- a call that is lent nothing
pub nothing_lent : (false ≡ true) ↔ ⊥
nothing_lent = ((λ e. true≢false (sym e)), (λ z. absurd z))

-- a table or room of a size, where n entries are needed
pub too_few : (size n : ℕ) → (ltb size n ≡ true) ↔ (size < n)
too_few size n = (ltb-true size n, lt-ltb size n)

-- the rooms of the key
pub rooms_few : (kind : ℕ) (w first second : List ℕ) → (rooms_short kind (length w) (length first) (length second) ≡ true) ↔ LacksRoom kind w first second
rooms_few kind w first second = (
  (λ e. by_test (ltb (length first) (length w)) (λ t. inl (ltb-true _ _ t))
      (λ t. by_test (stranded kind) (λ s. inr (s, ltb-true _ _ (simp (t, s) at e))) (λ s. absurd (true≢false (sym (simp (t, s) at e)))))),
  (λ l. either l (λ h. rw (lt-ltb _ _ h))
      (λ h. by_test (ltb (length first) (length w)) (λ t. rw t) (λ t. rw (t, h.0, lt-ltb _ _ h.1)))),
)

-- ---- a room that was written from its front, or left alone

module _ (v : Verdict) (new old : List ℕ) where
  pub left_alone : taken v ≡ false → after v new old ≡ old
  left_alone e = rw e

  pub written_beyond : (n : ℕ) → n ≡ length new → n ≤ length old → taken v ≡ true
      → (length (after v new old) ≡ length old) × (drop n (after v new old) ≡ drop n old)
  written_beyond n f h e =
      (rw e (simp (length-append, length-drop) (omega arith)), rw (e, f, drop_at new (drop (length new) old) (length new) refl))

-- a call that is lent a table, written with `new` when it is done
pub table_ruled : (kind : ℕ) (w new table others : List ℕ) (n : ℕ) → (Permitted kind w → length new ≤ length w)
    → (taken (verdict kind w (fewer (length table) w)) ≡ false → Zeros others) → (taken (verdict kind w (fewer (length table) w)) ≡ true → n ≡ length new)
    → AsRuled (Given kind w (length table < length w)) (number_of (verdict kind w (fewer (length table) w))) (place_of (verdict kind w (fewer (length table) w))) others
    (lent table (after (verdict kind w (fewer (length table) w)) new table) n ∷ [])
table_ruled kind w new table others n h z m =
    let v : Verdict = verdict kind w (fewer (length table) w) in
    ruled kind w (fewer (length table) w) (too_few (length table) (length w)) others (lent table (after v new table) n ∷ [])
    (λ e. (z e, (left_alone v new table e, tt)))
    (λ e. let p = taken_permitted kind w (fewer (length table) w) (taken_is v e) in
    (written_beyond v new table n (m e) (omega (arith, m e, h p.0, ltb-false (length table) (length w) p.1)) e, tt))
