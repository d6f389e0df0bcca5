-- What a table or a room holds when its call is done: what was written, and of a prefix table the entry of each prefix.
-- Assumes nothing.
use mathlib.Core.Path.{◌≡◌, sym, ap, ◌∙◌}
use mathlib.Core.List.{List}
use Prim.Native.Nat.{ℕ, suc, ◌≤◌, ◌<◌, ◌-◌}
use native.Mathlib.Omega.{arith}
use borrow.Author.Tests.{eq-eqb}
use lib.ListN.{length, take, drop, get_or, length-take, get_or-append}
use lib.Seq.{take_at}
use Rattle.ring.specs.Verdict.{Verdict}
use Rattle.words.specs.Factors.Factor.{factors, factor_table}
use Rattle.words.proofs.Factors.Factor.{factors_are, factors_one}
use Rattle.words.proofs.Factors.Runs.{length-factor_table, table_ascends}
use Rattle.ring.specs.Judging.{number_of, verdict, after}
use Rattle.ring.specs.Answers.{fewer, factored_of, factored_table}
use Rattle.ring.specs.Demands.{Divided}

module _ (v : Verdict) (new old : List ℕ) (e : number_of v ≡ 0) where
  pub front_is : (n : ℕ) → length new ≡ n → take n (after v new old) ≡ new
  front_is n f = rw (eq-eqb (number_of v) 0 e) (take_at new (drop (length new) old) n f)

  pub entry_at : (i : ℕ) → i < length new → get_or (after v new old) i 0 ≡ get_or new i 0
  entry_at i h = rw (eq-eqb (number_of v) 0 e) (get_or-append new (drop (length new) old) 0 i h)

  -- entry L - 1 of a table of prefixes is what its function gives for the prefix of length L
  pub prefix_is : (P : List ℕ → ℕ → Type 0) (f : List ℕ → ℕ) → ((u : List ℕ) → 0 < length u → P u (f u))
      → (w : List ℕ) → length new ≡ length w → ((i : ℕ) → i < length w → get_or new i 0 ≡ f (take (suc i) w))
      → (size : ℕ) → 0 < size → size ≤ length w → P (take size w) (get_or (after v new old) (size - 1) 0)
  prefix_is P f a w n g size p h =
      let i : size - 1 < length w = omega arith in
      let s : suc (size - 1) ≡ size = omega arith in
      let x : get_or (after v new old) (size - 1) 0 ≡ f (take size w) = entry_at (size - 1) (rw n i) ∙ g (size - 1) i ∙ ap (λ k. f (take k w)) s in
      rw x (a (take size w) (rw length-take (omega arith)))

-- ---- the factor table: the first positions of the only division

pub divided : (kind : ℕ) (w table : List ℕ) → (factored_of kind w (length table)).number ≡ 0 → Divided w (factored_of kind w (length table)).count (factored_table kind w table)
unfolding factor_table
divided kind w table e =
    let v : Verdict = verdict kind w (fewer (length table) w) in
    let n : (factored_of kind w (length table)).count ≡ length (factor_table w) = rw (eq-eqb (number_of v) 0 e) in
    record {
      words = factors w;
      are = factors_are w;
      only = factors_one w;
      counted = n ∙ length-factor_table w;
      entries = front_is v (factor_table w) table e (factored_of kind w (length table)).count (sym n);
      ascending = λ i h. rw (entry_at v (factor_table w) table e i (omega (arith, h, n)), entry_at v (factor_table w) table e (suc i) (omega (arith, h, n))) (table_ascends w i (omega (arith, h, n)));
    }
