-- The key stands in the room that its strand names.
-- Assumes nothing.
use mathlib.Core.Path.{◌≡◌, refl, sym, ap, ◌∙◌}
use mathlib.Core.Bool.{Bool, true, false, cond}
use mathlib.Core.List.{List, []}
use Prim.Native.Nat.{ℕ, ◌<◌}
use native.Mathlib.Omega.{arith}
use borrow.Author.Tests.{eq-eqb, ne_eqb}
use lib.ListN.{length, take, drop}
use lib.Seq.{take_at}
use Rattle.words.specs.Keys.Kind.{stranded}
use Rattle.words.specs.Rings.Ring.{lowest}
use Rattle.words.specs.Keys.Strand.{opposite, strand, key_start, key}
use Rattle.words.proofs.Order.Search.{by_test}
use Rattle.words.proofs.Rings.Turn.{length-lowest}
use Rattle.words.proofs.Keys.Strand.{length-opposite}
use Rattle.ring.specs.Verdict.{Verdict}
use Rattle.ring.specs.declared.answer.Marked.{Marked}
use Rattle.ring.specs.Judging.{Permitted, done, number_of, taken, field, over, after}
use Rattle.ring.specs.Answers.{rooms_short, key_verdict, keyed_of, first_room, second_room, key_part, in_second}
use Rattle.ring.specs.Calls.{WriteKeyCall}
use Rattle.ring.specs.Demands.{LacksRoom, KeyOf}
use Rattle.ring.proofs.Exactly.{taken_is}
use Rattle.ring.proofs.Keyed.{key_permitted}
use Rattle.ring.proofs.Numbers.{given_exactly, rooms_few}
use Rattle.ring.proofs.Verdicts.{number_refused, number_permitted}
use Rattle.ring.proofs.Entries.{front_is}
use Rattle.ring.proofs.KeyOf.{key_of}

-- the front of a room that holds a lowest reading
at_front : (w u room old : List ℕ) → 0 < length u → length u ≡ length w → room ≡ over (lowest u) old → take (length w) room ≡ lowest u
at_front w u room old h n e = ap (take (length w)) e ∙ take_at (lowest u) (drop (length (lowest u)) old) (length w) (length-lowest u h ∙ n)

key_own : (kind : ℕ) (w : List ℕ) → (strand kind w ≡ 1 → ⊥) → key kind w ≡ lowest w
unfolding key
key_own kind w h = rw (ne_eqb (strand kind w) 1 h)

key_other : (kind : ℕ) (w : List ℕ) → strand kind w ≡ 1 → key kind w ≡ lowest (opposite w)
unfolding key
key_other kind w h = rw (eq-eqb (strand kind w) 1 h)

other_stranded : (kind : ℕ) (w : List ℕ) → strand kind w ≡ 1 → stranded kind ≡ true
unfolding strand
other_stranded kind w h = by_test (stranded kind) (λ k. k) (λ k. absurd (omega (arith, simp k at h)))

module _ (kind : ℕ) (w first second : List ℕ) (m : Marked) (one two : List ℕ) (k : WriteKeyCall w kind first second m one two) where
  abbrev v : Verdict
  v = key_verdict kind w (length first) (length second)

  -- the part of a room that comes back
  pub record Part (room : List ℕ) (t : Bool) : Type 0 where
    pub size : m.n ≡ length (take m.n room)
    pub is : take m.n room ≡ key_part kind w (length first) (length second)
    pub place : in_second kind w (length first) (length second) ≡ t

  named : m.strand ≡ (keyed_of kind w (length first) (length second)).strand
  named = ap (λ (m : Marked). m.strand) k.answer

  counted : m.n ≡ (keyed_of kind w (length first) (length second)).n
  counted = ap (λ (m : Marked). m.n) k.answer

  some : taken v ≡ true → 0 < length w
  some t = (key_permitted kind w (length first) (length second) (taken_is v t)).some

  part_of : (room u : List ℕ) (t : Bool) → taken v ≡ true → length u ≡ length w → take (length w) room ≡ lowest u → key kind w ≡ lowest u → in_second kind w (length first) (length second) ≡ t → Part room t
  part_of room u t g n x y p =
      let c : m.n ≡ length w = counted ∙ rw g in
      record {
        size = rw c (sym (ap length x ∙ length-lowest u (rw n (some g)) ∙ n));
        is = rw c (x ∙ sym y ∙ rw g);
        place = p;
      }

  pub first_part : (m.strand ≡ 1 → ⊥) → Part one false
  first_part h =
      let p : in_second kind w (length first) (length second) ≡ false = ne_eqb _ 1 (λ e. h (named ∙ e)) in
      by_test (taken v)
      (λ g. part_of one w false g refl (at_front w w one first (some g) refl (k.front ∙ rw g)) (key_own kind w (λ e. h (named ∙ rw g e))) p)
      (λ g. let c : m.n ≡ 0 = counted ∙ rw g in record { size = rw c refl; is = rw (c, g) refl; place = p })

  pub second_part : m.strand ≡ 1 → Part two true
  second_part h =
      by_test (taken v)
      (λ g. let s : strand kind w ≡ 1 = sym (named ∙ rw g) ∙ h in
      part_of two (opposite w) true g (length-opposite w) (at_front w (opposite w) two second (rw length-opposite (some g)) (length-opposite w) (k.back ∙ rw (g, other_stranded kind w s))) (key_other kind w s) (eq-eqb _ 1 (sym named ∙ h)))
      (λ g. let z : m.strand ≡ 0 = named ∙ rw g in absurd (omega arith))

-- ---- the part and the rooms by the numbers of `write_key` on the same input

if_true : (t : Bool) (a b : List ℕ) → t ≡ true → cond t a b ≡ a
if_true t a b e = rw e

module _ (kind : ℕ) (w first second : List ℕ) where
  abbrev said : Verdict
  said = key_verdict kind w (length first) (length second)

  -- refused: an empty part of the first room
  pub part_refused : (number_of said ≡ 0 → ⊥) → (key_part kind w (length first) (length second) ≡ []) × (in_second kind w (length first) (length second) ≡ false)
  part_refused n = let e : taken said ≡ false = number_refused said n in (rw e, rw e)

  module _ (z : number_of said ≡ 0) where
    done_some : 0 < length w
    done_some = (number_permitted kind w (rooms_short kind (length w) (length first) (length second)) z).some

    -- done: the key, with the start and strand answered
    pub marked_key : KeyOf kind w (field said (key_start kind w)) (field said (strand kind w)) (key kind w)
    marked_key = rw (eq-eqb (number_of said) 0 z) (key_of kind w done_some)

    pub part_done : key_part kind w (length first) (length second) ≡ key kind w
    part_done = rw (eq-eqb (number_of said) 0 z)

    -- "The first receives the lowest reading as given, the second that of the opposite strand" (01)
    pub rooms_hold : (take (length w) (first_room kind w first (length second)) ≡ lowest w)
        × (stranded kind ≡ true → take (length w) (second_room kind w (length first) second) ≡ lowest (opposite w))
    rooms_hold = (
      front_is said (lowest w) first z (length w) (length-lowest w done_some),
      (λ t. ap (take (length w)) (if_true (stranded kind) (after said (lowest (opposite w)) second) second t) ∙ front_is said (lowest (opposite w)) second z (length w) (length-lowest (opposite w) (rw length-opposite done_some) ∙ length-opposite w)),
    )

-- a permitted ring with room enough is done
pub roomy : (kind : ℕ) (w first second : List ℕ) → Permitted kind w → (LacksRoom kind w first second → ⊥) → number_of (key_verdict kind w (length first) (length second)) ≡ 0
roomy kind w first second p n = ((given_exactly kind w _ (rooms_few kind w first second) 0 0).1 (done p n)).0
