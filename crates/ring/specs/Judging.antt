-- The judging of a ring of any of the three kinds (01, "Numbers given when a call declines"; 02, request 3).
-- Assumes nothing.
use Rattle.std.specs.Prelude.{◌≡◌, Bool, true, false, cond, not, List, [], ◌∷◌, ◌++◌, ℕ, suc, ◌≤◌, ◌<◌, ltb, eqb, length, drop, get_or}
use Rattle.words.specs.Keys.Kind.{known, is_letter}
use Rattle.ring.specs.Verdict.{Verdict}
use Rattle.ring.specs.Verdict.{Taken, Kind, Empty, Long, Letter, Short, NotKey}
use Rattle.ring.specs.Rule.{Rule, rule, judged}

-- the most letters that a ring has (01, "n from 1 to 8,192")
abbrev pub most : ℕ
most = 8192

-- the first position whose byte is no letter of the kind, n if there is none (01, 3: "the place is the first such position"; "3 covers
-- kind 2", 02)
abbrev pub first_bad : ℕ → List ℕ → ℕ
first_bad kind [] = 0
first_bad kind (a ∷ w) = cond (is_letter kind a) (suc (first_bad kind w)) 0

-- a ring that every call takes: of a known kind, 1 to 8,192 letters, each a letter of its kind (01)
pub record Permitted (kind : ℕ) (w : List ℕ) : Type 0 where
  pub kinds : known kind ≡ true
  pub some : 0 < length w
  pub within : length w ≤ most
  pub letters : (i : ℕ) → i < length w → is_letter kind (get_or w i 0) ≡ true

-- the number of each verdict in 01's table; 0 means done
abbrev pub number_of : Verdict → ℕ
number_of Taken = 0
number_of Kind = 6
number_of Empty = 1
number_of Long = 2
number_of (Letter i) = 3
number_of Short = 4
number_of NotKey = 7

-- the place: the first position of a letter that is none, 0 unless the number is 3 (01)
abbrev pub place_of : Verdict → ℕ
place_of Taken = 0
place_of Kind = 0
place_of Empty = 0
place_of Long = 0
place_of (Letter i) = i
place_of Short = 0
place_of NotKey = 0

-- "0 means done" (01)
abbrev pub taken : Verdict → Bool
taken v = eqb (number_of v) 0

-- 01: "Order for rings: 6, 1, 2, 3, 4", up to 3: what is said of the ring itself
abbrev pub ring_rules : ℕ → List ℕ → List (Rule Verdict)
ring_rules kind w =
    rule (not (known kind)) Kind
    ∷ rule (eqb (length w) 0) Empty
    ∷ rule (ltb most (length w)) Long
    ∷ rule (ltb (first_bad kind w) (length w)) (Letter (first_bad kind w))
    ∷ []

-- and then 4; `short`: a needed table or room has too few entries, false for a call that is lent none
unfoldable pub verdict : ℕ → List ℕ → Bool → Verdict
verdict kind w short = judged (ring_rules kind w ++ rule short Short ∷ []) Taken

-- 01's table for rings: each number exactly when its condition holds and none before it in the order, and its place. `Lacks` is 4's
-- condition in the call's own terms: a needed table or room has too few entries. "3 covers kind 2; 6 means a kind above 2" (02)
pub data Given (kind : ℕ) (w : List ℕ) (Lacks : Type 0) : ℕ → ℕ → Type 0 where
  unknown : known kind ≡ false → Given kind w Lacks 6 0
  none : known kind ≡ true → length w ≡ 0 → Given kind w Lacks 1 0
  many : known kind ≡ true → most < length w → Given kind w Lacks 2 0
  letter : known kind ≡ true → length w ≤ most → (i : ℕ) → i < length w → is_letter kind (get_or w i 0) ≡ false
      → ((j : ℕ) → j < i → is_letter kind (get_or w j 0) ≡ true) → Given kind w Lacks 3 i
  lacking : Permitted kind w → Lacks → Given kind w Lacks 4 0
  done : Permitted kind w → (Lacks → ⊥) → Given kind w Lacks 0 0

-- a field of an answer: 0 where the call declines (01, "other fields are 0")
abbrev pub field : Verdict → ℕ → ℕ
field v x = cond (taken v) x 0

-- a room written from its front; what lies beyond the written entries stays unchanged (01)
abbrev pub over : List ℕ → List ℕ → List ℕ
over new old = new ++ drop (length new) old

-- a lent room afterwards: written where the call is done, else as it was (01, "no lent byte changes")
abbrev pub after : Verdict → List ℕ → List ℕ → List ℕ
after v new old = cond (taken v) (over new old) old
