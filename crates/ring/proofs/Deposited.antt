-- The deposit of a key written to a room: by the table, the one ring that has the key.
-- Assumes nothing.
use mathlib.Core.Path.{◌≡◌, refl, sym, ap, ◌∙◌}
use mathlib.Core.Bool.{true}
use mathlib.Core.List.{List, [], ◌∷◌}
use Prim.Native.Nat.{ℕ, ◌<◌}
use lib.ListN.{length, take}
use lib.Seq.{take_at}
use Rattle.words.specs.Keys.Strand.{strand, key_start, key}
use Rattle.ring.specs.Verdict.{Verdict}
use Rattle.ring.specs.Verdict.{Taken}
use Rattle.ring.specs.Judging.{Permitted, number_of, place_of, taken, field}
use Rattle.ring.specs.Answers.{fewer, IsKey, deposit, is_key, deposit_verdict, deposit_room}
use Rattle.ring.specs.Demands.{lent, AsRuled, GivenKey, KeyOf}
use Rattle.ring.proofs.Exactly.{number_taken, taken_is}
use Rattle.ring.proofs.Numbers.{too_few, left_alone, written_beyond}
use Rattle.ring.proofs.KeyFit.{is_key_true, deposit_one}
use Rattle.ring.proofs.KeyOf.{key_of, key_only}
use Rattle.ring.proofs.ComparedLemmas.{length-key}
use Rattle.ring.proofs.Deposit.{passes_permitted, passes_key, passes_start, passes_strand}
use Rattle.ring.proofs.AsKey.{key_ruled, taken-key, deposit_fits}

module _ (kind : ℕ) (k : List ℕ) (at s : ℕ) (room : List ℕ) where
  abbrev v : Verdict
  v = deposit_verdict kind k at s (length room)

  module _ (e : v ≡ Taken) where
    has : is_key kind k at s ≡ true
    has = is_key_true kind k at s (taken-key kind k at s (fewer (length room) k) (too_few (length room) (length k)) e).0

    permitted : Permitted kind (deposit k at s)
    permitted = passes_permitted kind k at s has

    -- the deposit is as long as its key
    size : length (deposit k at s) ≡ length k
    size = sym (length-key kind (deposit k at s) permitted.some) ∙ ap length (passes_key kind k at s has)

    front : take (field v (length k)) (deposit_room kind k at s room) ≡ deposit k at s
    front = rw (ap taken e) (take_at (deposit k at s) _ (length k) size)

  pub deposit_ruled : AsRuled (GivenKey kind k at s (length room < length k)) (number_of v) (place_of v)
      (field v (length k) ∷ field v at ∷ field v s ∷ []) (lent room (deposit_room kind k at s room) (field v (length k)) ∷ [])
  deposit_ruled =
      key_ruled kind k at s (fewer (length room) k) (too_few (length room) (length k)) _ _
      (λ t. ((rw t refl, (rw t refl, (rw t refl, tt))), (left_alone v (deposit k at s) room t, tt)))
      (λ t. let e : v ≡ Taken = taken_is v t in
      (written_beyond v (deposit k at s) room (field v (length k)) (rw t (sym (size e))) (rw t (deposit_fits kind k at s (length room) e).1) t, tt))

  module _ (z : number_of v ≡ 0) where
    is : v ≡ Taken
    is = number_taken v z

    pub deposited : Permitted kind (take (field v (length k)) (deposit_room kind k at s room)) × KeyOf kind (take (field v (length k)) (deposit_room kind k at s room)) at s k
    deposited =
        let h = has is in
        let o : KeyOf kind (deposit k at s) (key_start kind (deposit k at s)) (strand kind (deposit k at s)) (key kind (deposit k at s)) = key_of kind (deposit k at s) (permitted is).some in
        rw (front is) (permitted is, rw (passes_start kind k at s h, passes_strand kind k at s h, passes_key kind k at s h) at o)

    pub deposit_only : (w : List ℕ) → Permitted kind w → KeyOf kind w at s k → w ≡ take (field v (length k)) (deposit_room kind k at s room)
    deposit_only w p o =
        let q = key_only kind w _ _ _ _ _ _ (key_of kind w p.some) o in
        let i : IsKey kind k at s = record { ring = w; permitted = p; letters = q.2; start = q.0; strands = q.1 } in
        rw (front is) (deposit_one kind k at s i)
