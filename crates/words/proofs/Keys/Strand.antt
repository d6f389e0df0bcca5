-- The opposite strand: it undoes itself and turns with the ring.
-- Assumes nothing.
use mathlib.Core.Path.{◌≡◌, refl, sym, ap, ◌∙◌}
use mathlib.Core.List.{List, [], ◌∷◌, ◌++◌, map, reverse, reverse_aux, reverse-cons, reverse-reverse, reverse-append, map-append}
use Prim.Native.Nat.{ℕ, suc, ◌<◌, ◌-◌}
use native.Mathlib.Omega.{arith}
use lib.Dec.{eqb}
use lib.ListN.{length, take, drop, get_or, length-drop, length-map, length-reverse, take-append-drop, get_or-append, get_or-map}
use lib.Seq.{take_at, drop_at, get_or_at}
use Rattle.words.specs.Keys.Facing.{facing}
use Rattle.words.specs.Rings.Ring.{reading}
use Rattle.words.specs.Keys.Strand.{opposite, on_strand}
use Rattle.words.proofs.Order.Search.{by_test, either, lt_or_ge}
use Rattle.words.proofs.Keys.Facing.{facing_twice, facing_zero}

map_twice : (w : List ℕ) → map facing (map facing w) ≡ w
map_twice [] = refl
map_twice (a ∷ w) = cc (facing_twice a, map_twice w)

map_backward : (w v : List ℕ) → map facing (reverse_aux w v) ≡ reverse_aux (map facing w) (map facing v)
map_backward [] v = refl
map_backward (a ∷ w) v = map_backward w (a ∷ v)

pub opposite_twice : (w : List ℕ) → opposite (opposite w) ≡ w
unfolding opposite
opposite_twice w = rw (map_backward, map_twice, reverse-reverse)

pub length-opposite : (w : List ℕ) → length (opposite w) ≡ length w
unfolding opposite
length-opposite w = rw (length-reverse, length-map)

pub opposite-append : (u v : List ℕ) → opposite (u ++ v) ≡ opposite v ++ opposite u
unfolding opposite
opposite-append u v = rw (map-append, reverse-append)

opposite_turned : (a b : List ℕ) → opposite (b ++ a) ≡ reading (opposite (a ++ b)) (length b)
unfolding reading
opposite_turned a b =
    rw (opposite-append b a, opposite-append a b, drop_at (opposite b) (opposite a) (length b) (length-opposite b), take_at (opposite b) (opposite a) (length b) (length-opposite b))

-- the opposite of a reading is a reading of the opposite
pub opposite-reading : (w : List ℕ) (i : ℕ) → opposite (reading w i) ≡ reading (opposite w) (length w - i)
unfolding reading
opposite-reading w i =
    opposite_turned (take i w) (drop i w) ∙ ap (λ x. reading (opposite x) (length (drop i w))) (take-append-drop i w) ∙ ap (reading (opposite w)) (length-drop i w)

-- ---- a ring on a strand

pub length-strand : (s : ℕ) (w : List ℕ) → length (on_strand s w) ≡ length w
length-strand s w = by_test (eqb s 1) (λ t. rw t (length-opposite w)) (λ t. rw t)

pub strand_twice : (s : ℕ) (w : List ℕ) → on_strand s (on_strand s w) ≡ w
strand_twice s w = by_test (eqb s 1) (λ t. rw t (opposite_twice w)) (λ t. rw t)

-- ---- the letters of the opposite strand, one by one

reverse_at : (l : List ℕ) (i : ℕ) → i < length l → get_or (reverse l) i 0 ≡ get_or l (length l - 1 - i) 0
reverse_at [] i h = absurd (omega arith)
reverse_at (x ∷ l) i h =
    ap (λ z. get_or z i 0) (reverse-cons x l)
    ∙ either (lt_or_ge i (length l))
    (λ m. let e : suc (length l) - 1 - i ≡ suc (length l - 1 - i) = omega arith in
    get_or-append (reverse l) (x ∷ []) 0 i (rw length-reverse m) ∙ reverse_at l i m ∙ sym (ap (λ k. get_or (x ∷ l) k 0) e))
    (λ m. let e : suc (length l) - 1 - i ≡ 0 = omega arith in
    let n : length (reverse l) ≡ i = length-reverse l ∙ omega arith in
    get_or_at (reverse l) x [] 0 i n ∙ sym (ap (λ k. get_or (x ∷ l) k 0) e))

pub opposite_at : (w : List ℕ) (i : ℕ) → i < length w → get_or (opposite w) i 0 ≡ facing (get_or w (length w - 1 - i) 0)
unfolding opposite
opposite_at w i h =
    reverse_at (map facing w) i (rw length-map h) ∙ ap (λ n. get_or (map facing w) (n - 1 - i) 0) (length-map w facing)
    ∙ ap (get_or (map facing w) (length w - 1 - i)) (sym facing_zero) ∙ get_or-map facing w (length w - 1 - i) 0
