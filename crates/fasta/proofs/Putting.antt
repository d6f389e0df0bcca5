-- What the loop that writes the bases of some bytes keeps, and a law for each way it goes.
-- Assumes nothing.
use mathlib.Core.Path.{◌≡◌, ap}
use mathlib.Core.List.{List, [], ◌∷◌, ◌++◌}
use Prim.Native.Nat.{ℕ, ◌<◌, ◌≤◌, ◌+◌}
use native.Mathlib.Omega.{arith}
use lib.ListN.{length, take, get_or, set}
use Rattle.ring.proofs.Laid.{Laid, laid_one}
use Rattle.fasta.specs.Bases.{base_of, bases_in}
use Rattle.fasta.proofs.Bases.{bases_more_some, bases_more_none, bases_fewer}
use Rattle.fasta.proofs.Others.{length_more}

pub record Putting (lines : List ℕ) (i k : ℕ) (old room : List ℕ) : Type 0 where
  pub size : k ≡ length (bases_in (take i lines))
  pub laid : Laid (bases_in (take i lines)) old room

module _ (lines : List ℕ) (i k : ℕ) (old room : List ℕ) (s : Putting lines i k old room) where
  module _ (h : i < length lines) where
    module _ (l : length (bases_in lines) ≤ length old) (a : ℕ) (e : a ≡ base_of (get_or lines i 0)) (z : 0 < a) where
      some : bases_in (take (i + 1) lines) ≡ bases_in (take i lines) ++ (a ∷ [])
      some = rw e (bases_more_some lines i h (rw (← e) z))

      -- a base is left, so there is room for it
      pub put_fits : k < length old
      put_fits = omega (arith, s.size, ap length some, length_more (bases_in (take i lines)) a, bases_fewer lines (i + 1))

      pub put_base : Putting lines (i + 1) (k + 1) old (set room k a)
      put_base = record {
        size = rw (some, length_more (bases_in (take i lines)) a) (omega (arith, s.size));
        laid = rw some (laid_one (bases_in (take i lines)) old room s.laid k a s.size put_fits);
      }

    pub put_on : base_of (get_or lines i 0) ≤ 0 → Putting lines (i + 1) k old room
    put_on z =
        let e = bases_more_none lines i h z in
        record { size = rw e s.size; laid = rw e s.laid }
