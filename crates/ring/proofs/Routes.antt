-- The routes agree: the start from the factors, from the duels and the last entry of the start table are one number, the first position
-- whose reading no other undercuts; the pairs are those the duels read, at most three a letter.
-- Assumes nothing.
use mathlib.Core.Path.{◌≡◌, refl, sym, ap, ◌∙◌}
use mathlib.Core.List.{List}
use Prim.Native.Nat.{ℕ, suc, ◌≤◌, ◌<◌, ◌+◌, ◌-◌, ◌*◌}
use native.Mathlib.Omega.{arith}
use lib.ListN.{length, take, get_or, get_or-append}
use lib.Seq.{take_all}
use Rattle.words.specs.Rings.Ring.{start}
use Rattle.words.specs.Suffixes.Prefix.{start_table}
use Rattle.words.specs.Duels.Duel.{start_of, pairs}
use Rattle.words.proofs.Rings.Ring.{start_is, start_one}
use Rattle.words.proofs.Factors.Route.{route_is}
use Rattle.words.proofs.Suffixes.Prefix.{length-start_table, start_table_at}
use Rattle.words.proofs.Duels.Pairs.{duels_end, pairs_few, pairs_three}
use Rattle.ring.specs.Judging.{Permitted}
use Rattle.ring.specs.Answers.{factored_of, starts_table, fought_of}
use Rattle.ring.specs.Demands.{OneStart}
use Rattle.ring.proofs.Exactly.{permitted_taken, roomed}

module _ (kind : ℕ) (w : List ℕ) (p : Permitted kind w) where
  route_factors : (size : ℕ) → length w ≤ size → (factored_of kind w size).start ≡ start w
  route_factors size h = rw (roomed kind w size p h) (route_is w p.some)

  pub route_duels : (fought_of kind w).start ≡ start w
  route_duels = rw (permitted_taken kind w _ p refl) (ap start_of (duels_end w p.some))

  route_table : (t : List ℕ) → length w ≤ length t → get_or (starts_table kind w t) (length w - 1) 0 ≡ start w
  route_table t h =
      let n : length w - 1 < length w = omega (arith, p.some) in
      let s : suc (length w - 1) ≡ length w = omega (arith, p.some) in
      rw (roomed kind w (length t) p h)
      (get_or-append (start_table w) _ 0 (length w - 1) (rw length-start_table n)
      ∙ start_table_at w (length w - 1) n ∙ ap (λ i. start (take i w)) s ∙ ap start (take_all (length w) w (omega arith)))

  -- the pairs are the duels'
  route_pairs : (fought_of kind w).pairs ≡ pairs w
  route_pairs = rw (permitted_taken kind w _ p refl)

  pub one_start : (size : ℕ) → length w ≤ size → (t : List ℕ) → length w ≤ length t → OneStart w (factored_of kind w size) (fought_of kind w) (starts_table kind w t)
  one_start size h t l =
      let f : (factored_of kind w size).start ≡ start w = route_factors size h in
      record {
        by_duels = route_duels ∙ sym f;
        by_table = route_table t l ∙ sym f;
        start = rw f (start_is w p.some);
        only = λ i s. start_one w i s ∙ sym f;
        fought = duels_end w p.some ∙ rw (f, route_pairs);
        few = rw route_pairs (pairs_three w);
      }

  -- at most 3n - 4 for n of 2 or more
  pub fewer-pairs : 2 ≤ length w → (fought_of kind w).pairs + 4 ≤ 3 * length w
  fewer-pairs h = rw route_pairs (omega (arith, pairs_few w p.some))
