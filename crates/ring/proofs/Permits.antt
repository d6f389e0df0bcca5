-- A permitted ring stays one when it is turned, and so does its opposite strand; so every ring that is the same molecule is permitted.
-- Assumes nothing.
use mathlib.Core.Path.{◌≡◌}
use mathlib.Core.Logic.{⊎_elim}
use mathlib.Core.Bool.{true}
use mathlib.Core.List.{List}
use Prim.Native.Nat.{ℕ, ◌≤◌, ◌<◌, ◌+◌, ◌-◌, ◌%◌}
use native.Mathlib.Omega.{arith}
use native.Mathlib.Nat.{mod-lt}
use lib.Dec.{eqb}
use lib.ListN.{length, get_or}
use Rattle.words.specs.Keys.Kind.{is_letter}
use Rattle.words.specs.Rings.Ring.{reading, around, lowest, start, IsReading}
use Rattle.words.specs.Keys.Strand.{opposite, on_strand, OneRing}
use Rattle.words.proofs.Order.Search.{by_test}
use Rattle.words.proofs.Rings.Ring.{start_is}
use Rattle.words.proofs.Rings.Turn.{length-reading, reading_at}
use Rattle.words.proofs.Keys.Facing.{facing_letter}
use Rattle.words.proofs.Keys.Strand.{length-opposite, opposite_at}
use Rattle.ring.specs.Judging.{Permitted}

around_letter : (kind : ℕ) (w : List ℕ) (i : ℕ) → Permitted kind w → is_letter kind (around w i) ≡ true
unfolding around
around_letter kind w i p = p.letters (i % length w) (mod-lt i p.some)

pub permitted_reading : (kind : ℕ) (w : List ℕ) (i : ℕ) → i ≤ length w → Permitted kind w → Permitted kind (reading w i)
permitted_reading kind w i h p =
    let n : length (reading w i) ≡ length w = length-reading w i h in
    record {
      kinds = p.kinds;
      some = rw n p.some;
      within = rw n p.within;
      letters = λ j l. rw (reading_at w i j h (rw n at l)) (around_letter kind w (i + j) p);
    }

pub permitted_lowest : (kind : ℕ) (w : List ℕ) → Permitted kind w → Permitted kind (lowest w)
unfolding lowest
permitted_lowest kind w p = permitted_reading kind w (start w) (omega (arith, (start_is w p.some).within)) p

pub permitted_opposite : (kind : ℕ) (w : List ℕ) → Permitted kind w → Permitted kind (opposite w)
permitted_opposite kind w p =
    let n : length (opposite w) ≡ length w = length-opposite w in
    record {
      kinds = p.kinds;
      some = rw n p.some;
      within = rw n p.within;
      letters = λ j l. let m : j < length w = rw n at l in
          rw (opposite_at w j m) (facing_letter kind (get_or w (length w - 1 - j) 0) (p.letters (length w - 1 - j) (omega arith)));
    }

pub permitted_strand : (kind s : ℕ) (w : List ℕ) → Permitted kind w → Permitted kind (on_strand s w)
permitted_strand kind s w p = by_test (eqb s 1) (λ t. rw t (permitted_opposite kind w p)) (λ t. rw t p)

-- so a ring that is the same molecule is permitted too
permitted_of_reading : (kind : ℕ) (u v : List ℕ) → Permitted kind u → IsReading u v → Permitted kind v
permitted_of_reading kind u v p r = rw r.is (permitted_reading kind u r.at (omega (arith, r.within)) p)

pub permitted_molecule : (kind : ℕ) (u v : List ℕ) → Permitted kind u → OneRing kind u v → Permitted kind v
permitted_molecule kind u v p =
    ⊎_elim (permitted_of_reading kind u v p) (λ r. permitted_of_reading kind (opposite u) v (permitted_opposite kind u p) r.1)
