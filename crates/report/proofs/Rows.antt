-- Numbers written in a row, one after another.
-- Assumes nothing.
use mathlib.Core.Path.{◌≡◌, refl, sym, ap, ◌∙◌}
use mathlib.Core.List.{List, [], ◌∷◌, ◌++◌, append_assoc}
use Prim.Native.Nat.{ℕ, suc, ◌≤◌, ◌<◌, ◌+◌, ◌-◌}
use native.Mathlib.Omega.{arith}
use native.Mathlib.Numerals.{add-one}
use borrow.Rule.Slice.PartMut.{put_mid}
use lib.ListN.{length, take, drop, set, get_or, length-append, length-drop, length-take}
use lib.Seq.{drop-cons, drop-length}
use Rattle.ring.specs.Judging.{over}
use Rattle.ring.proofs.Laid.{Laid, laid_one, laid_part, laid_size}
use Rattle.report.specs.Decimal.{decimal, row, row_room}
use Rattle.report.specs.Report.{longest, table_room}

row_last : (end x : ℕ) (r : List ℕ) → r ≡ [] → row end (x ∷ r) ≡ decimal x ++ (end ∷ row end r)
row_last end x r e = rw e

row_next : (end x : ℕ) (r : List ℕ) → 0 < length r → row end (x ∷ r) ≡ decimal x ++ (32 ∷ row end r)
row_next end x [] h = absurd (omega arith)
row_next end x (y ∷ r) h = refl

-- i numbers of xs are written, in the first `at` bytes
pub record Rowed (o t xs : List ℕ) (end at i : ℕ) : Type 0 where
  pub written : List ℕ
  pub laid : Laid written o t
  pub size : length written ≡ at
  pub same : row end xs ≡ written ++ row end (drop i xs)
  pub within : i ≤ length xs
  pub few : at ≤ row_room i

-- the byte behind number i
pub data Between (xs : List ℕ) (end i : ℕ) : ℕ → Type 0 where
  last : suc i ≡ length xs → Between xs end i end
  inner : suc i < length xs → Between xs end i 32

module _ (o t xs : List ℕ) (end at i : ℕ) (k : Rowed o t xs end at i) (h : i < length xs) where
  row_on : (b : ℕ) → Between xs end i b → row end (drop i xs) ≡ decimal (get_or xs i 0) ++ (b ∷ row end (drop (suc i) xs))
  row_on b (last e) = ap (row end) (drop-cons xs i 0 h) ∙ row_last end (get_or xs i 0) (drop (suc i) xs) (rw (e, drop-length))
  row_on b (inner l) = ap (row end) (drop-cons xs i 0 h) ∙ row_next end (get_or xs i 0) (drop (suc i) xs) (rw length-drop (omega arith))

  module _ (y : List ℕ) (c : ℕ) (e : c ≡ length (decimal (get_or xs i 0))) (f : c ≤ 5) (m : row_room (length xs) ≤ length o) (q : y ≡ over (decimal (get_or xs i 0)) (take (length t - at) (drop at t))) where
    -- the number is written
    number_laid : Laid (k.written ++ decimal (get_or xs i 0)) o (put_mid at (length t - at) t y)
    number_laid = laid_part k.written (decimal (get_or xs i 0)) o t y at k.laid k.size (omega (arith, laid_size _ o t k.laid, k.few)) (omega (arith, laid_size _ o t k.laid, k.few)) q

    -- and the byte behind it
    pub rowed_one : (b : ℕ) → Between xs end i b → Rowed o (set (put_mid at (length t - at) t y) (at + c) b) xs end (at + c + 1) (i + 1)
    rowed_one b w =
        let d : List ℕ = decimal (get_or xs i 0) in
        let n : length (k.written ++ d) ≡ at + c = length-append k.written d ∙ rw (k.size, e) in
        record {
          written = (k.written ++ d) ++ (b ∷ []);
          laid = laid_one _ o _ number_laid (at + c) b (sym n) (omega (arith, k.few));
          size = length-append (k.written ++ d) (b ∷ []) ∙ rw n;
          same = k.same ∙ ap (λ r. k.written ++ r) (row_on b w) ∙ rw add-one (simp append_assoc);
          within = omega arith;
          few = omega (arith, k.few);
        }

-- a table's front, printed as a line
pub table_row : (table new o t : List ℕ) (n r : ℕ) → take n table ≡ new → length table ≡ longest → (r ≡ length (row 10 (take n table))) × (r ≤ row_room (length (take n table))) → t ≡ over (row 10 (take n table)) o
    → (r ≡ length (row 10 new)) × (length (row 10 new) ≤ table_room) × (t ≡ over (row 10 new) o)
table_row table new o t n r e h v q =
    let a : r ≡ length (row 10 new) = rw e at v.0 in
    (a, omega (arith, v.1, length-take {A = ℕ}), rw e at q)
