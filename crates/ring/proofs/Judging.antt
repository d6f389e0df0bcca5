-- The judging of a ring: what a scan of the letters keeps, and the verdict from what the tests showed.
-- Assumes nothing.
use mathlib.Core.Path.{◌≡◌, refl, ap}
use mathlib.Core.Bool.{Bool, true, false}
use mathlib.Core.List.{List, [], ◌∷◌}
use Prim.Native.Nat.{ℕ, suc, ◌≤◌, ◌<◌, ◌+◌}
use native.Mathlib.Omega.{arith}
use native.Mathlib.Numerals.{add-one}
use borrow.Author.Tests.{eq-eqb, ne_eqb, lt-ltb, le-ltb}
use lib.Dec.{eqb}
use lib.ListN.{length, drop, get_or}
use lib.Seq.{drop-cons, drop-length}
use Rattle.words.specs.Keys.Kind.{known, is_letter}
use Rattle.ring.specs.Verdict.{Verdict}
use Rattle.ring.specs.Verdict.{Taken, Kind, Empty, Long, Letter, Short, NotKey}
use Rattle.ring.specs.Judging.{most, first_bad, taken, verdict}

-- ---- the scan of the letters: no bad letter below i

pub record Passed (kind : ℕ) (w : List ℕ) (i : ℕ) : Type 0 where
  pub within : i ≤ length w
  pub rest : first_bad kind w ≡ i + first_bad kind (drop i w)

pub passed_none : (kind : ℕ) (w : List ℕ) → Passed kind w 0
passed_none kind w = record { within = omega arith; rest = omega arith }

module _ (kind : ℕ) (w : List ℕ) (i : ℕ) (p : Passed kind w i) where
  pub passed_one : i < length w → is_letter kind (get_or w i 0) ≡ true → Passed kind w (i + 1)
  passed_one h t =
      let e : first_bad kind (drop i w) ≡ suc (first_bad kind (drop (suc i) w)) = rw (drop-cons w i 0 h, t) in
      record { within = omega arith; rest = rw add-one (omega (arith, p.rest)) }

  pub passed_stop : i < length w → is_letter kind (get_or w i 0) ≡ false → first_bad kind w ≡ i
  passed_stop h t =
      let e : first_bad kind (drop i w) ≡ 0 = rw (drop-cons w i 0 h, t) in
      omega (arith, p.rest)

  pub passed_all : length w ≤ i → first_bad kind w ≡ i
  passed_all h =
      let e : first_bad kind (drop i w) ≡ 0 = rw (let z : i ≡ length w = omega (arith, p.within) in z, drop-length) in
      omega (arith, p.rest)

-- a kind that takes every byte
pub passed_every : (kind : ℕ) (w : List ℕ) → eqb kind 0 ≡ true → first_bad kind w ≡ length w
passed_every kind [] t = refl
passed_every kind (a ∷ w) t = rw t (ap suc (passed_every kind w t))

-- ---- the verdict, rule by rule

module _ (kind : ℕ) (w : List ℕ) (short : Bool) where
  pub says_kind : known kind ≡ false → verdict kind w short ≡ Kind
  unfolding verdict
  says_kind h = rw h

  module _ (k : known kind ≡ true) where
    pub says_empty : length w ≡ 0 → verdict kind w short ≡ Empty
    unfolding verdict
    says_empty h = rw (k, eq-eqb (length w) 0 h)

    module _ (n : length w ≡ 0 → ⊥) where
      pub says_long : most < length w → verdict kind w short ≡ Long
      unfolding verdict
      says_long h = rw (k, ne_eqb (length w) 0 n, lt-ltb most (length w) h)

      module _ (m : length w ≤ most) where
        pub says_letter : (b : ℕ) → b ≡ first_bad kind w → b < length w → verdict kind w short ≡ Letter b
        unfolding verdict
        says_letter b e h =
            rw (k, ne_eqb (length w) 0 n, le-ltb most (length w) m, lt-ltb (first_bad kind w) (length w) (rw e at h), e)

        module _ (f : length w ≤ first_bad kind w) where
          pub says_short : short ≡ true → verdict kind w short ≡ Short
          unfolding verdict
          says_short t = rw (k, ne_eqb (length w) 0 n, le-ltb most (length w) m, le-ltb (first_bad kind w) (length w) f, t)

          pub says_taken : short ≡ false → verdict kind w short ≡ Taken
          unfolding verdict
          says_taken t = rw (k, ne_eqb (length w) 0 n, le-ltb most (length w) m, le-ltb (first_bad kind w) (length w) f, t)

-- ---- an answer's arm for every verdict but Taken

pub not_taken : (v : Verdict) → (v ≡ Taken → ⊥) → taken v ≡ false
not_taken Taken o = absurd (o refl)
not_taken Kind o = refl
not_taken Empty o = refl
not_taken Long o = refl
not_taken (Letter i) o = refl
not_taken Short o = refl
not_taken NotKey o = refl
