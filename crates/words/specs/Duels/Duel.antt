-- The sequence of duels (01, "The two routes to a start", steps 1 to 4).
-- Assumes nothing.
use Rattle.std.specs.Prelude.{cond, not, List, ℕ, zero, suc, ◌+◌, ◌*◌, ltb, leb, eqb, length}
use Rattle.words.specs.Order.Search.{seek}
use Rattle.words.specs.Rings.Ring.{around}

-- between duels: p, q and the pairs read so far; or the end, with the start and the pairs
pub data Duels : Type 0 where
  going : ℕ → ℕ → ℕ → Duels
  ended : ℕ → ℕ → Duels

-- step 2: the first k at which the letters at p + k and q + k differ, or n
unfoldable pub meet : List ℕ → ℕ → ℕ → ℕ
meet w p q = seek (λ k. not (eqb (around w (p + k)) (around w (q + k)))) (length w) 0

-- step 4: a position whose letter a is greater than the other's, b, moves forward by k + 1
unfoldable pub forward : ℕ → ℕ → ℕ → ℕ → ℕ
forward a b p k = cond (ltb b a) (p + (k + 1)) p

-- step 4: the smaller is then called p
unfoldable pub lower : ℕ → ℕ → ℕ
lower x y = cond (ltb y x) y x

-- step 4: the greater is called q; if they are equal, q grows by one
unfoldable pub upper : ℕ → ℕ → ℕ
upper x y = cond (eqb x y) (y + 1) (cond (ltb y x) x y)

-- step 4, whole: where p and q stand after letters a and b that differ at k
abbrev pub moved_p : ℕ → ℕ → ℕ → ℕ → ℕ → ℕ
moved_p p q k a b = lower (forward a b p k) (forward b a q k)

abbrev pub moved_q : ℕ → ℕ → ℕ → ℕ → ℕ → ℕ
moved_q p q k a b = upper (forward a b p k) (forward b a q k)

abbrev pub move : ℕ → ℕ → ℕ → ℕ → ℕ → ℕ → Duels
move p q c k a b = going (moved_p p q k a b) (moved_q p q k a b) (c + (k + 1))

-- steps 2 to 4: a duel that meets a differing pair at k, or n equal pairs
abbrev pub fight : List ℕ → ℕ → ℕ → ℕ → ℕ → Duels
fight w p q c k = cond (ltb k (length w)) (move p q c k (around w (p + k)) (around w (q + k))) (ended p (c + length w))

-- step 1: if q is n or more, the end
abbrev pub duel : List ℕ → Duels → Duels
duel w (going p q c) = cond (leb (length w) q) (ended p c) (fight w p q c (meet w p q))
duel w (ended p c) = ended p c

-- at most f duels, one after another
abbrev pub fought : ℕ → List ℕ → Duels → Duels
fought zero w d = d
fought (suc f) w d = fought f w (duel w d)

-- begin with p = 0 and q = 1; 2n duels are enough
unfoldable pub duels : List ℕ → Duels
duels w = fought (2 * length w) w (going 0 1 0)

-- what an end says; a sequence that has not ended says 0
abbrev pub start_of : Duels → ℕ
start_of (going p q c) = 0
start_of (ended p c) = p

abbrev pub pairs_of : Duels → ℕ
pairs_of (going p q c) = 0
pairs_of (ended p c) = c

-- the pairs read (01)
unfoldable pub pairs : List ℕ → ℕ
pairs w = pairs_of (duels w)
