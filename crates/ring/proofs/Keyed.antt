-- The key's marks and both rooms, by the verdict and the kind.
-- Assumes nothing.
use mathlib.Core.Path.{◌≡◌, refl, sym, ap, ◌∙◌}
use mathlib.Core.Bool.{Bool, true, false, cond, ◌&&◌}
use mathlib.Core.List.{List, [], ◌∷◌}
use Prim.Native.Nat.{ℕ, ◌≤◌}
use native.Mathlib.Omega.{arith}
use borrow.Author.Tests.{ltb-false}
use lib.Dec.{ltb}
use lib.ListN.{length, drop}
use Rattle.words.specs.Keys.Kind.{stranded}
use Rattle.words.specs.Rings.Ring.{reading, lowest}
use Rattle.words.specs.Keys.Strand.{opposite, strand, key_start}
use Rattle.words.proofs.Order.Search.{by_test, neither}
use Rattle.words.proofs.Keys.Strand.{length-opposite}
use Rattle.words.proofs.Rings.Turn.{length-lowest}
use Rattle.ring.specs.Verdict.{Verdict}
use Rattle.ring.specs.Verdict.{Taken}
use Rattle.ring.specs.declared.answer.Marked.{Marked}
use Rattle.ring.specs.declared.marking.Strands.{Strands}
use Rattle.ring.specs.Judging.{Permitted, Given, verdict, number_of, place_of, taken, field, over, after}
use Rattle.ring.specs.Strands.{both_strands, marked_on}
use Rattle.ring.specs.Answers.{done_with, rooms_short, key_verdict, first_room, second_room}
use Rattle.ring.specs.Calls.{WriteKeyCall}
use Rattle.ring.specs.Demands.{lent, AsRuled, LacksRoom}
use Rattle.ring.proofs.Exactly.{taken_is, taken_permitted}
use Rattle.ring.proofs.Numbers.{ruled, rooms_few, left_alone, written_beyond}
use Rattle.ring.proofs.MarkLaws.{marked_done, marks_stranded}

-- the verdict on a ring with the rooms of the key
pub keyed_is : (kind : ℕ) (w : List ℕ) (a b : ℕ) (short : Bool) (v : Verdict) → short ≡ rooms_short kind (length w) a b → v ≡ verdict kind w short → v ≡ key_verdict kind w a b
keyed_is kind w a b short v f e = e ∙ ap (verdict kind w) f

-- the rooms that a taken ring has
module _ (kind : ℕ) (w : List ℕ) (a b : ℕ) (e : key_verdict kind w a b ≡ Taken) where
  pub key_permitted : Permitted kind w
  key_permitted = (taken_permitted kind w _ e).0

  pub first_fits : length w ≤ a
  first_fits = ltb-false a (length w) (neither _ _ (taken_permitted kind w _ e).1).0

  pub second_fits : stranded kind ≡ true → length w ≤ b
  second_fits k =
      let t = (neither (ltb a (length w)) (stranded kind && ltb b (length w)) (taken_permitted kind w (rooms_short kind (length w) a b) e).1).1 in
      ltb-false b (length w) (simp k at t)

module _ (kind : ℕ) (w first second : List ℕ) where
  module _ (e : key_verdict kind w (length first) (length second) ≡ Taken) where
    g : taken (key_verdict kind w (length first) (length second)) ≡ true
    g = ap taken e

    pub keyed_plain : stranded kind ≡ false → (m : Marked) (one : List ℕ) → m ≡ done_with (length w) (key_start kind w) (strand kind w) → one ≡ over (reading w m.start) first
        → WriteKeyCall w kind first second m one second
    unfolding lowest strand key_start
    keyed_plain k m one x f = record { answer = marked_done kind w m x _ e; front = f ∙ rw (x, g, k); back = rw k }

    pub keyed_stranded : stranded kind ≡ true → (s : Strands) (m : Marked) (one two : List ℕ) → s ≡ both_strands w → m ≡ marked_on s (length w)
        → one ≡ over (reading w s.own) first → two ≡ over (reading (opposite w) s.other) second → WriteKeyCall w kind first second m one two
    unfolding lowest
    keyed_stranded k s m one two x q f h = record {
      answer = marked_done kind w m (q ∙ marks_stranded kind w k s x) _ e;
      front = f ∙ rw (x, g);
      back = h ∙ rw (x, g, k);
    }

-- ---- the rooms by the table, and the part that comes back

-- a room that is written only if a test says so
if_alone : (t : Bool) (v : Verdict) (new old : List ℕ) → taken v ≡ false → cond t (after v new old) old ≡ old
if_alone true v new old e = left_alone v new old e
if_alone false v new old e = refl

if_beyond : (t : Bool) (v : Verdict) (new old : List ℕ) (n : ℕ) → n ≡ length new → (t ≡ true → n ≤ length old) → taken v ≡ true
    → (length (cond t (after v new old) old) ≡ length old) × (drop (cond t n 0) (cond t (after v new old) old) ≡ drop (cond t n 0) old)
if_beyond true v new old n f h e = written_beyond v new old n f (h refl) e
if_beyond false v new old n f h e = (refl, refl)

module _ (kind : ℕ) (w first second : List ℕ) where
  abbrev v : Verdict
  v = key_verdict kind w (length first) (length second)

  counted : (u : List ℕ) → length u ≡ length w → taken v ≡ true → field v (length w) ≡ length (lowest u)
  counted u n e = rw e (sym (length-lowest u (rw n (key_permitted kind w _ _ (taken_is v e)).some) ∙ n))

  fits : (size : ℕ) → length w ≤ size → field v (length w) ≤ size
  fits size h = by_test (taken v) (λ e. rw e h) (λ e. rw e (omega arith))

  -- the answer and both rooms obey the table
  pub rooms_ruled : AsRuled (Given kind w (LacksRoom kind w first second)) (number_of v) (place_of v)
      (field v (length w) ∷ field v (key_start kind w) ∷ field v (strand kind w) ∷ [])
      (lent first (first_room kind w first (length second)) (field v (length w))
      ∷ lent second (second_room kind w (length first) second) (cond (stranded kind) (field v (length w)) 0) ∷ [])
  rooms_ruled =
      ruled kind w (rooms_short kind (length w) (length first) (length second)) (rooms_few kind w first second) _ _
      (λ e. ((rw e refl, (rw e refl, (rw e refl, tt))), (left_alone v (lowest w) first e, (if_alone (stranded kind) v (lowest (opposite w)) second e, tt))))
      (λ e. let t : v ≡ Taken = taken_is v e in (
        written_beyond v (lowest w) first (field v (length w)) (counted w refl e) (fits _ (first_fits kind w _ _ t)) e,
        (
          if_beyond (stranded kind) v (lowest (opposite w)) second (field v (length w)) (counted (opposite w) (length-opposite w) e) (λ s. fits _ (second_fits kind w _ _ t s)) e,
          tt,
        ),
      ))
