-- Lyndon words: the test, what begins inside one, the join of two.
-- Assumes nothing.
use mathlib.Core.Path.{◌≡◌, sym}
use mathlib.Core.Logic.{⊎_elim}
use mathlib.Core.Bool.{true, true≢false}
use mathlib.Core.List.{List, [], ◌∷◌, ◌++◌}
use Prim.Native.Nat.{ℕ, zero, suc, ◌<◌, ◌+◌, ◌-◌}
use native.Mathlib.Omega.{arith}
use lib.ListN.{length, drop, length-append, length-drop}
use lib.Seq.{drop-append_seam, drop-append-add, drop-append-le}
use Rattle.words.specs.Order.Order.{◌≺◌, ◌≪◌, ◌≼◌, before}
use Rattle.words.specs.Factors.Lyndon.{Lyndon, lyndon}
use Rattle.words.proofs.Order.Search.{either, lt_or_ge, every_at, every_true}
use Rattle.words.proofs.Order.Order.{before_less, before_true, trans, irrefl, lt_le, append_left, decided, decided_more, decided_left, decided_long, decided_or_prefix}

-- ---- the test

suffix_test : (a : ℕ) (w : List ℕ) → lyndon (a ∷ w) ≡ true → (i : ℕ) → 0 < i → i < length (a ∷ w) → (a ∷ w) ≺ drop i (a ∷ w)
suffix_test a w e zero h l = absurd (omega arith)
suffix_test a w e (suc i) h l = before_less _ _ (every_at (λ i. before (a ∷ w) (drop i w)) (length w) e i (omega arith))

pub lyndon_is : (w : List ℕ) → lyndon w ≡ true → Lyndon w
lyndon_is [] e = absurd (true≢false (sym e))
lyndon_is (a ∷ w) e = record { some = omega arith; least = suffix_test a w e }

pub lyndon_true : (w : List ℕ) → Lyndon w → lyndon w ≡ true
lyndon_true [] p = absurd (omega (arith, p.some))
lyndon_true (a ∷ w) p = every_true (λ i. before (a ∷ w) (drop i w)) (length w) (λ i h. before_true (p.least (suc i) (omega arith) (omega arith)))

-- a Lyndon word is no greater than what stands at j in it
pub from_in : (f : List ℕ) (j : ℕ) → Lyndon f → j < length f → f ≼ drop j f
from_in f zero y h = irrefl
from_in f (suc j) y h = lt_le (y.least (suc j) (omega arith) h)

-- a Lyndon word is less than what begins inside it, whatever follows
pub word_below : {u : List ℕ} (i : ℕ) (a b : List ℕ) → Lyndon u → 0 < i → i < length u → u ++ a ≪ drop i u ++ b
word_below i a b y h l = decided_more a b (decided_long (y.least i h l) (rw length-drop (omega arith)))

-- ---- two Lyndon words, the first less than the second, join to one

join_less : (f g : List ℕ) → Lyndon f → Lyndon g → f ≺ g → f ++ g ≺ g
join_less f g y z h =
    ⊎_elim (λ d. decided (decided_left g d))
    (λ p. let e : drop (length f) g ≡ p.0 = rw (p.1, drop-append_seam) in
    let l : f ++ g ≺ f ++ p.0 = append_left f (rw e at (z.least (length f) y.some (rw (p.1, length-append) (omega (arith, p.2))))) in
    rw (← p.1) at l)
    (decided_or_prefix h)

join_at : (f g : List ℕ) → Lyndon f → Lyndon g → f ≺ g → (j : ℕ) → j < length g → f ++ g ≺ drop j g
join_at f g y z h zero l = join_less f g y z h
join_at f g y z h (suc j) l = trans (join_less f g y z h) (z.least (suc j) (omega arith) l)

join_least : (f g : List ℕ) → Lyndon f → Lyndon g → f ≺ g → (i : ℕ) → 0 < i → i < length (f ++ g) → f ++ g ≺ drop i (f ++ g)
join_least f g y z h i p l =
    either (lt_or_ge i (length f))
    (λ q. rw (drop-append-le i f g (omega arith)) (decided (word_below i g g y p q)))
    (λ q. let e : length f + (i - length f) ≡ i = omega arith in
    let s : f ++ g ≺ drop (length f + (i - length f)) (f ++ g) = rw drop-append-add (join_at f g y z h (i - length f) (omega (arith, simp length-append at l))) in
    rw e at s)

pub join : (f g : List ℕ) → Lyndon f → Lyndon g → f ≺ g → Lyndon (f ++ g)
join f g y z h = record { some = rw length-append (omega (arith, y.some)); least = join_least f g y z h }
