-- A number of k bytes, low byte first: its laws, each once for every width.
-- Assumes nothing.
use mathlib.Core.Path.{◌≡◌, refl, sym, ap, ap₂, ◌∙◌}
use mathlib.Core.List.{List, [], ◌∷◌, ◌++◌, append_assoc}
use Prim.Native.Nat.{ℕ, zero, suc, ◌≤◌, ◌<◌, ◌+◌, ◌*◌, ◌/◌, ◌%◌, ◌^◌}
use native.Mathlib.Omega.{arith}
use native.Mathlib.Nat.{pow-succ', pow-le-pow_right}
use lib.ListN.{length, take, drop, get_or, length-append, length-drop, take-append-drop}
use lib.Seq.{take-add, drop_at, get_or-drop, get_or-append-add}
use Rattle.sheet.specs.Sheet.{base, bytes_in, number_in}
use Rattle.sheet.specs.Trailer.{Bytes}

pub length_in : (k x : ℕ) → length (bytes_in k x) ≡ k
length_in zero x = refl
length_in (suc k) x = ap suc (length_in k (x / base))

pub bytes_below : (k x : ℕ) → Bytes (bytes_in k x)
bytes_below zero x i = omega arith
bytes_below (suc k) x zero = omega arith
bytes_below (suc k) x (suc i) = bytes_below k (x / base) i

-- what k bytes hold
pub number_below : (k : ℕ) (t : List ℕ) → Bytes t → number_in k t < base ^ k
number_below zero t y = omega arith
number_below (suc k) t y =
    let h : number_in k (drop 1 t) < base ^ k = number_below k (drop 1 t) (λ i. rw get_or-drop (y _)) in
    omega (arith, y 0, pow-succ' base k)

-- fewer bytes hold no more
pub held_within : (k n : ℕ) → k ≤ n → base ^ k ≤ base ^ n
held_within k n h = pow-le-pow_right (omega arith) h

-- the bytes of a number give it back, whatever stands behind them
pub number_back : (k x : ℕ) (t : List ℕ) → x < base ^ k → number_in k (bytes_in k x ++ t) ≡ x
number_back zero x t h = omega arith
number_back (suc k) x t h =
    let e : number_in k (bytes_in k (x / base) ++ t) ≡ x / base = number_back k (x / base) t (omega (arith, pow-succ' base k)) in omega arith

-- k bytes are those of the number that they are
pub bytes_back : (k : ℕ) (t : List ℕ) → k ≤ length t → Bytes t → bytes_in k (number_in k t) ≡ take k t
bytes_back zero t h y = refl
bytes_back (suc k) [] h y = absurd (omega arith)
bytes_back (suc k) (a ∷ t) h y =
    let l : (a + base * number_in k t) % base ≡ a = omega (arith, y 0) in
    let d : (a + base * number_in k t) / base ≡ number_in k t = omega (arith, y 0) in
    ap₂ (λ x z. x ∷ bytes_in k z) l d ∙ ap (λ z. a ∷ z) (bytes_back k t (omega arith) (λ i. y (suc i)))

-- ---- two numbers one behind the other, and more behind them

module _ (k x y : ℕ) (more : List ℕ) where
  pub length_two : length (bytes_in k x ++ bytes_in k y ++ more) ≡ k + k + length more
  length_two = omega (arith, length-append (bytes_in k x ++ bytes_in k y) more, length-append (bytes_in k x) (bytes_in k y), length_in k x, length_in k y)

  pub first_back : x < base ^ k → number_in k (bytes_in k x ++ bytes_in k y ++ more) ≡ x
  first_back h = ap (number_in k) (append_assoc (bytes_in k x) (bytes_in k y) more) ∙ number_back k x (bytes_in k y ++ more) h

  pub second_back : y < base ^ k → number_in k (drop k (bytes_in k x ++ bytes_in k y ++ more)) ≡ y
  second_back h =
      ap (λ t. number_in k (drop k t)) (append_assoc (bytes_in k x) (bytes_in k y) more)
      ∙ ap (number_in k) (drop_at (bytes_in k x) (bytes_in k y ++ more) k (length_in k x)) ∙ number_back k y more h

  pub more_at : (i : ℕ) → get_or (bytes_in k x ++ bytes_in k y ++ more) (k + k + i) 0 ≡ get_or more i 0
  more_at i =
      let n : k + k + i ≡ length (bytes_in k x ++ bytes_in k y) + i = omega (arith, length-append (bytes_in k x) (bytes_in k y), length_in k x, length_in k y) in
      ap (λ j. get_or (bytes_in k x ++ bytes_in k y ++ more) j 0) n ∙ get_or-append-add (bytes_in k x ++ bytes_in k y) more i 0

-- bytes are those of their first two numbers, and the rest
pub two_back : (k : ℕ) (t : List ℕ) → k + k ≤ length t → Bytes t → bytes_in k (number_in k t) ++ bytes_in k (number_in k (drop k t)) ++ drop (k + k) t ≡ t
two_back k t h y =
    let b : bytes_in k (number_in k (drop k t)) ≡ take k (drop k t) = bytes_back k (drop k t) (rw length-drop (omega arith)) (λ i. rw get_or-drop (y _)) in
    ap₂ (λ p q. p ++ q ++ drop (k + k) t) (bytes_back k t (omega arith) y) b
    ∙ ap (λ p. p ++ drop (k + k) t) (sym (take-add k k t)) ∙ take-append-drop (k + k) t
