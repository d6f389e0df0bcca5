-- Letters judged as a key: the verdict from what the tests showed, and each number exactly when its condition holds.
-- Assumes nothing.
use mathlib.Core.Path.{◌≡◌, refl, sym, ap, ◌∙◌, subst}
use mathlib.Core.Logic.{◌↔◌}
use mathlib.Core.Bool.{Bool, true, false, not, true≢false}
use mathlib.Core.List.{List, [], ◌∷◌}
use Prim.Native.Nat.{ℕ, ◌≤◌}
use native.Mathlib.Omega.{arith}
use lib.ListN.{length}
use borrow.Author.Tests.{eq-eqb, ne_eqb}
use Rattle.words.proofs.Order.Search.{by_test, either, lt_or_ge}
use Rattle.ring.specs.Verdict.{Verdict}
use Rattle.ring.specs.Verdict.{Taken, Short, NotKey}
use Rattle.ring.specs.Rule.{Rule, rule}
use Rattle.ring.specs.Judging.{Permitted, number_of, place_of, taken, verdict}
use Rattle.ring.specs.Answers.{fewer, IsKey, is_key, as_key, deposit_verdict}
use Rattle.ring.specs.Demands.{Lent, Zeros, AsLent, Beyond, AsRuled, GivenKey, as_ring, not_key, key_lacking, key_done}
use Rattle.ring.proofs.Exactly.{taken_is, taken_permitted}
use Rattle.ring.proofs.Numbers.{nothing_lent, too_few, given_exactly}
use Rattle.ring.proofs.Verdicts.{clear_behind, refused_behind}
use Rattle.ring.proofs.KeyFit.{key_fits, is_key_is, is_key_true}
use Rattle.ring.proofs.Deposit.{passes_below}

-- a ring that is refused has a number
refused_number : (v : Verdict) → taken v ≡ false → number_of v ≡ 0 → ⊥
refused_number v t e = true≢false (sym (eq-eqb (number_of v) 0 e) ∙ t)

module _ (kind : ℕ) (k : List ℕ) (at s : ℕ) (short : Bool) where
  -- ---- the verdict, test by test

  -- what is judged behind the ring itself
  abbrev behind : List (Rule Verdict)
  behind = rule (not (is_key kind k at s)) NotKey ∷ rule short Short ∷ []

  pub key_refused : taken (verdict kind k false) ≡ false → as_key kind k at s short ≡ verdict kind k false
  unfolding as_key
  key_refused t = refused_behind kind k (refused_number (verdict kind k false) t) behind

  module _ (p : Permitted kind k) where
    pub key_not : is_key kind k at s ≡ false → as_key kind k at s short ≡ NotKey
    unfolding as_key
    key_not e = clear_behind kind k p behind ∙ rw e

    pub key_short : is_key kind k at s ≡ true → short ≡ true → as_key kind k at s short ≡ Short
    unfolding as_key
    key_short e t = clear_behind kind k p behind ∙ rw (e, t)

    pub key-taken : is_key kind k at s ≡ true → short ≡ false → as_key kind k at s short ≡ Taken
    unfolding as_key
    key-taken e t = clear_behind kind k p behind ∙ rw (e, t)

  -- what is a key is permitted
  pub key_permitted : IsKey kind k at s → Permitted kind k
  key_permitted i = (key_fits kind k at s i).permitted

  -- ---- which rule answered

  module _ {Lacks : Type 0} (tells : (short ≡ true) ↔ Lacks) where
    abbrev Table : ℕ → ℕ → Type 0
    Table = GivenKey kind k at s Lacks

    abbrev Said : Verdict → Type 0
    Said v = Table (number_of v) (place_of v)

    given_permitted : Permitted kind k → Said (as_key kind k at s short)
    given_permitted p =
        by_test (is_key kind k at s)
        (λ e. by_test short (λ t. rw (key_short p e t) (key_lacking (is_key_is kind k at s e) (tells.0 t)))
        (λ t. rw (key-taken p e t) (key_done (is_key_is kind k at s e) (λ l. true≢false (sym (tells.1 l) ∙ t)))))
        (λ e. rw (key_not p e) (not_key p (λ i. true≢false (sym (is_key_true kind k at s i) ∙ e))))

    given : Said (as_key kind k at s short)
    given =
        by_test (taken (verdict kind k false)) (λ t. given_permitted (taken_permitted kind k false (taken_is _ t)).0)
        (λ t. rw (key_refused t) (as_ring ((given_exactly kind k false nothing_lent _ _).0 (refl, refl)) (refused_number (verdict kind k false) t)))

    -- number n is said, with place i
    abbrev Says : ℕ → ℕ → Type 0
    Says n i = (number_of (as_key kind k at s short) ≡ n) × (place_of (as_key kind k at s short) ≡ i)

    told : {v : Verdict} → as_key kind k at s short ≡ v → Says (number_of v) (place_of v)
    told e = (ap number_of e, ap place_of e)

    given_said : {n i : ℕ} → Table n i → Says n i
    given_said {n} {i} (as_ring g z) =
        let e = (given_exactly kind k false nothing_lent n i).1 g in
        let r = key_refused (ne_eqb (number_of (verdict kind k false)) 0 (λ y. z (sym e.0 ∙ y))) in
        (ap number_of r ∙ e.0, ap place_of r ∙ e.1)
    given_said (not_key p n) = told (key_not p (by_test (is_key kind k at s) (λ t. absurd (n (is_key_is kind k at s t))) (λ t. t)))
    given_said (key_lacking i l) = told (key_short (key_permitted i) (is_key_true kind k at s i) (tells.1 l))
    given_said (key_done i n) = told (key-taken (key_permitted i) (is_key_true kind k at s i) (by_test short (λ t. absurd (n (tells.0 t))) (λ t. t)))

    said_given : {n i : ℕ} → Says n i → Table n i
    said_given {n} {i} e = subst (λ x. Table x i) e.0 (subst (Table (number_of (as_key kind k at s short))) e.1 given)

    -- such a call obeys the table
    pub key_ruled : (others : List ℕ) (rooms : List Lent) → (taken (as_key kind k at s short) ≡ false → Zeros others × AsLent rooms)
        → (taken (as_key kind k at s short) ≡ true → Beyond rooms)
        → AsRuled Table (number_of (as_key kind k at s short)) (place_of (as_key kind k at s short)) others rooms
    key_ruled others rooms r d = record {
      exactly = λ n i. (said_given, given_said);
      refused = λ n. r (ne_eqb (number_of (as_key kind k at s short)) 0 n);
      beyond = λ e. d (eq-eqb (number_of (as_key kind k at s short)) 0 e);
    }

    done_of : {n i : ℕ} → Table n i → n ≡ 0 → IsKey kind k at s × (Lacks → ⊥)
    done_of (as_ring g z) e = absurd (z e)
    done_of (not_key p n) e = absurd (omega arith)
    done_of (key_lacking i l) e = absurd (omega arith)
    done_of (key_done i n) e = (i, n)

    -- what is taken is a key, and has room enough
    pub taken-key : as_key kind k at s short ≡ Taken → IsKey kind k at s × (Lacks → ⊥)
    taken-key t = done_of given (ap number_of t)

-- a deposit that is written: the start is a position of the letters, and they have room
pub deposit_fits : (kind : ℕ) (k : List ℕ) (at s size : ℕ) → deposit_verdict kind k at s size ≡ Taken → (at ≤ length k) × (length k ≤ size)
deposit_fits kind k at s size e =
    let t = taken-key kind k at s (fewer size k) (too_few size (length k)) e in
    let l = t.1 in
    (omega (arith, passes_below kind k at s (is_key_true kind k at s t.0)), either (lt_or_ge size (length k)) (λ h. absurd (l h)) (λ h. h))
