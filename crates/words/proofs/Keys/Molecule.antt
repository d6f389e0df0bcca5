-- Two rings have one key just when one is a turn of the other or, for a kind with an opposite strand, of the other's opposite strand; and then
-- one repeat.
-- Assumes nothing.
use mathlib.Core.Path.{◌≡◌, refl, sym, ap, ◌∙◌}
use mathlib.Core.Logic.{◌⊎◌, inl, inr, ⊎_elim}
use mathlib.Core.Bool.{true, false, cond}
use mathlib.Core.List.{List, append-nil}
use Prim.Native.Nat.{ℕ, ◌≤◌, ◌<◌, ◌-◌}
use native.Mathlib.Omega.{arith}
use native.Mathlib.Nat.{eq-or-lt_of_le}
use lib.ListN.{length}
use lib.Seq.{take-length, drop-length}
use Rattle.words.specs.Order.Order.{before}
use Rattle.words.specs.Keys.Kind.{known, stranded, strands}
use Rattle.words.specs.Rings.Ring.{reading, lowest, IsReading}
use Rattle.words.specs.Repeats.Repeat.{Turns, repeat}
use Rattle.words.specs.Keys.Strand.{opposite, strand, key_start, key, OneRing}
use Rattle.words.proofs.Order.Order.{before_true, before_false, Tri, tri, less, same, more, lt_le}
use Rattle.words.proofs.Order.Search.{either, by_test}
use Rattle.words.proofs.Rings.Turn.{reading_back, lowest-reading, lowest_of_reading, reading_of_lowest}
use Rattle.words.proofs.Repeats.Turned.{same_turns, repeat_of_reading}
use Rattle.words.proofs.Keys.Strand.{opposite_twice, opposite-reading, length-opposite}

-- the lesser of two words, the first if they are equal
abbrev pub lesser : List ℕ → List ℕ → List ℕ
lesser a b = cond (before b a) b a

lesser_swap : (a b : List ℕ) → lesser a b ≡ lesser b a
lesser_swap a b = go (tri a b)
  where
    go : Tri a b → lesser a b ≡ lesser b a
    go (less h) = rw (before_true h, before_false b a (lt_le h))
    go (same e) = rw e
    go (more h) = rw (before_true h, before_false a b (lt_le h))

lesser_either : {P : Type 0} (a b k : List ℕ) → k ≡ lesser a b → (k ≡ a → P) → (k ≡ b → P) → P
lesser_either a b k e f g = by_test (before b a) (λ t. g (e ∙ rw t)) (λ t. f (e ∙ rw t))

-- ---- the key by kind

pub key_plain : (kind : ℕ) (w : List ℕ) → stranded kind ≡ false → key kind w ≡ lowest w
unfolding key strand
key_plain kind w e = rw e

pub key_lesser : (kind : ℕ) (w : List ℕ) → stranded kind ≡ true → key kind w ≡ lesser (lowest w) (lowest (opposite w))
unfolding key strand
key_lesser kind w e = by_test (before (lowest (opposite w)) (lowest w)) (λ t. rw (e, t)) (λ t. rw (e, t))

-- kinds that both have an opposite strand, or both have none, give a ring the same key
module _ (j k : ℕ) (e : stranded j ≡ stranded k) (w : List ℕ) where
  pub strand_alike : strand j w ≡ strand k w
  unfolding strand
  strand_alike = rw e

  pub start_alike : key_start j w ≡ key_start k w
  unfolding key_start
  start_alike = rw strand_alike

  pub key_alike : key j w ≡ key k w
  unfolding key
  key_alike = rw strand_alike

-- ---- turning a ring over

-- the reading at n is the reading at 0
is_reading : (u : List ℕ) (i : ℕ) → i ≤ length u → 0 < length u → IsReading u (reading u i)
unfolding reading
is_reading u i h p =
    either (eq-or-lt_of_le h)
    (λ e. record { at = 0; within = p; is = rw (e, take-length, drop-length) (sym (append-nil u)) })
    (λ l. record { at = i; within = l; is = refl })

-- where the opposite of v is a reading of u, v is one of the opposite of u
turn_over : (u v : List ℕ) → IsReading u (opposite v) → IsReading (opposite u) v
turn_over u v r =
    let p : 0 < length (opposite u) = rw length-opposite (omega (arith, r.within)) in
    let e : v ≡ reading (opposite u) (length u - r.at) = sym (opposite_twice v) ∙ ap opposite r.is ∙ opposite-reading u r.at in
    rw e (is_reading (opposite u) (length u - r.at) (rw length-opposite (omega arith)) p)

turn_lowest : (u v : List ℕ) → IsReading u v → lowest (opposite v) ≡ lowest (opposite u)
turn_lowest u v r =
    rw (r.is, opposite-reading u r.at)
    (lowest-reading (opposite u) (length u - r.at) (rw length-opposite (omega arith)) (rw length-opposite (omega (arith, r.within))))

-- ---- one ring has one key

turned_key : (kind : ℕ) (u v : List ℕ) → IsReading u v → key kind v ≡ key kind u
turned_key kind u v r =
    by_test (stranded kind)
    (λ s. key_lesser kind v s ∙ rw (lowest_of_reading u v r, turn_lowest u v r) (sym (key_lesser kind u s)))
    (λ s. key_plain kind v s ∙ lowest_of_reading u v r ∙ sym (key_plain kind u s))

over-key : (kind : ℕ) (u v : List ℕ) → stranded kind ≡ true → IsReading (opposite u) v → key kind v ≡ key kind u
over-key kind u v s r =
    let e : lowest (opposite v) ≡ lowest u = turn_lowest (opposite u) v r ∙ ap lowest (opposite_twice u) in
    key_lesser kind v s ∙ rw (lowest_of_reading (opposite u) v r, e) (lesser_swap (lowest (opposite u)) (lowest u) ∙ sym (key_lesser kind u s))

pub one_key : (kind : ℕ) (u v : List ℕ) → OneRing kind u v → key kind v ≡ key kind u
one_key kind u v (inl r) = turned_key kind u v r
one_key kind u v (inr r) = over-key kind u v r.0 r.1

-- ---- one key is of one ring

bases : (u v : List ℕ) → 0 < length u → 0 < length v → lesser (lowest v) (lowest (opposite v)) ≡ lesser (lowest u) (lowest (opposite u))
    → IsReading u v ⊎ IsReading (opposite u) v
bases u v p q e =
    let a : 0 < length (opposite u) = rw length-opposite p in
    let b : 0 < length (opposite v) = rw length-opposite q in
    lesser_either (lowest v) (lowest (opposite v)) _ refl
    (λ x. lesser_either (lowest u) (lowest (opposite u)) _ refl
    (λ y. inl (reading_of_lowest u v p q (sym x ∙ e ∙ y)))
    (λ y. inr (reading_of_lowest (opposite u) v a q (sym x ∙ e ∙ y))))
    (λ x. lesser_either (lowest u) (lowest (opposite u)) _ refl
    (λ y. inr (turn_over u v (reading_of_lowest u (opposite v) p b (sym x ∙ e ∙ y))))
    (λ y. inl (rw opposite_twice at (turn_over (opposite u) v (reading_of_lowest (opposite u) (opposite v) a b (sym x ∙ e ∙ y))))))

pub one_ring : (kind : ℕ) (u v : List ℕ) → 0 < length u → 0 < length v → key kind v ≡ key kind u → OneRing kind u v
one_ring kind u v p q e =
    by_test (stranded kind)
    (λ s. either (bases u v p q (sym (key_lesser kind v s) ∙ e ∙ key_lesser kind u s)) inl (λ r. inr (s, r)))
    (λ s. inl (reading_of_lowest u v p q (sym (key_plain kind v s) ∙ e ∙ key_plain kind u s)))

-- the same by lowest readings: v's is u's, or that of u's opposite strand
pub one_lowest : (kind : ℕ) (u v : List ℕ) → OneRing kind u v → (lowest v ≡ lowest u) ⊎ ((stranded kind ≡ true) × (lowest v ≡ lowest (opposite u)))
one_lowest kind u v (inl r) = inl (lowest_of_reading u v r)
one_lowest kind u v (inr r) = inr (r.0, lowest_of_reading (opposite u) v r.1)

pub lowest_one : (kind : ℕ) (u v : List ℕ) → 0 < length u → 0 < length v → (lowest v ≡ lowest u) ⊎ ((stranded kind ≡ true) × (lowest v ≡ lowest (opposite u))) → OneRing kind u v
lowest_one kind u v p q (inl e) = inl (reading_of_lowest u v p q e)
lowest_one kind u v p q (inr e) = inr (e.0, reading_of_lowest (opposite u) v (rw length-opposite p) q e.1)

-- ---- the strand that holds the key is one of the kind's

pub strand_below : (kind : ℕ) (w : List ℕ) → known kind ≡ true → strand kind w < strands kind
unfolding strand strands
strand_below kind w k =
    by_test (stranded kind)
    (λ t. by_test (before (lowest (opposite w)) (lowest w)) (λ b. rw (k, t, b) (omega arith)) (λ b. rw (k, t, b) (omega arith)))
    (λ t. rw (k, t) (omega arith))

-- ---- rings that are one molecule have one repeat: where a ring is turned by p, its opposite strand is turned by n - p

turns-over : (w : List ℕ) (p : ℕ) → Turns w p → Turns (opposite w) p
turns-over w p t =
    let h : p ≤ length w = t.within in
    let n : length (opposite w) ≡ length w = length-opposite w in
    let e : length (opposite w) - (length w - p) ≡ p = omega arith in
    let a : reading (opposite w) (length w - p) ≡ opposite w = sym (opposite-reading w p) ∙ ap opposite t.same in
    let b : reading (reading (opposite w) (length w - p)) p ≡ opposite w =
    rw e at (reading_back (opposite w) (length w - p) (omega arith) (omega (arith, t.some))) in
    record { some = t.some; within = omega arith; same = ap (λ x. reading x p) (sym a) ∙ b }

turns_under : (w : List ℕ) (p : ℕ) → Turns (opposite w) p → Turns w p
turns_under w p t = rw opposite_twice at (turns-over (opposite w) p t)

pub repeat-opposite : (w : List ℕ) → 0 < length w → repeat (opposite w) ≡ repeat w
repeat-opposite w l = same_turns w (opposite w) l (turns-over w) (turns_under w)

pub repeat_molecule : (kind : ℕ) (u v : List ℕ) → 0 < length u → OneRing kind u v → repeat v ≡ repeat u
repeat_molecule kind u v h = ⊎_elim (repeat_of_reading u v) (λ r. repeat_of_reading (opposite u) v r.1 ∙ repeat-opposite u h)
