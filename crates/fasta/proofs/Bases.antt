-- The table of bases at each byte, what it tells of a byte, and the bases of bytes one behind another.
-- Assumes nothing.
use mathlib.Core.Path.{◌≡◌, refl, sym, ap, ◌∙◌}
use mathlib.Core.Bool.{true, false}
use mathlib.Core.List.{List, [], ◌∷◌, ◌++◌, append-nil}
use Prim.Native.Nat.{ℕ, ◌≤◌, ◌<◌, ◌+◌}
use native.Mathlib.Omega.{arith}
use borrow.Author.Tests.{eqb-true, leb-true, lt-ltb, le-ltb}
use lib.Dec.{eqb, leb, ltb}
use lib.ListN.{length, take, drop, get_or, length-append}
use Rattle.std.specs.Prelude.{Option, Some, None, MatchOption, is_some}
use Rattle.std.proofs.lemmas.List.{take_more, take-append-drop}
use Rattle.words.specs.Keys.Kind.{is_letter}
use Rattle.words.proofs.Order.Search.{by_test, tabled_at}
use Rattle.fasta.specs.Lines.{space, upper}
use Rattle.fasta.specs.Answers.{base_kind}
use Rattle.fasta.specs.Bases.{base_of, bytes, base_table, bases_in}

pub base_at : (b : ℕ) → b < bytes → get_or base_table b 0 ≡ base_of b
unfolding base_table
base_at b h = tabled_at base_of bytes b h

-- a letter of a base ring stands from A to T
pub record Between (b : ℕ) : Type 0 where
  pub low : 65 ≤ b
  pub high : b ≤ 84

pub letter_between : (b : ℕ) → is_letter base_kind b ≡ true → Between b
letter_between b e =
    by_test (eqb b 65) (λ q. let z = eqb-true b 65 q in record { low = omega arith; high = omega arith })
    (λ q. by_test (eqb b 67) (λ r. let z = eqb-true b 67 r in record { low = omega arith; high = omega arith })
    (λ r. by_test (eqb b 71) (λ s. let z = eqb-true b 71 s in record { low = omega arith; high = omega arith })
    (λ s. let z = eqb-true b 84 (rw (q, r, s) at e) in record { low = omega arith; high = omega arith })))

-- what has a base is kept as that base, which is a letter, and stands above all blanks and line ends
module _ (b : ℕ) (h : 0 < base_of b) where
  pub base_letter : is_letter base_kind (upper b) ≡ true
  unfolding base_of
  base_letter = by_test (is_letter base_kind (upper b)) (λ e. e) (λ e. absurd (let z : 0 < 0 = rw e at h in omega arith))

  pub base_is : base_of b ≡ upper b
  unfolding base_of
  base_is = rw base_letter

  pub base_high : space < b
  unfolding upper
  base_high =
      let k = letter_between (upper b) base_letter in
      by_test (leb 97 b) (λ e. let z = leb-true 97 b e in omega arith) (λ e. let l : 65 ≤ b = rw e at k.low in omega arith)

-- what has none is no letter, if it is kept
pub no_base : (b : ℕ) → base_of b ≤ 0 → is_letter base_kind (upper b) ≡ false
unfolding base_of
no_base b h =
    by_test (is_letter base_kind (upper b))
    (λ e. absurd (let k = letter_between (upper b) e in let z : upper b ≤ 0 = rw e at h in omega (arith, k.low)))
    (λ e. e)

-- ---- the bases of bytes

pub bases-append : (s t : List ℕ) → bases_in (s ++ t) ≡ bases_in s ++ bases_in t
bases-append [] t = refl
bases-append (b ∷ s) t = by_test (ltb 0 (base_of b)) (λ e. rw (e, bases-append s t)) (λ e. rw (e, bases-append s t))

-- up to a byte more
module _ (s : List ℕ) (i : ℕ) (h : i < length s) where
  bases_more : bases_in (take (i + 1) s) ≡ bases_in (take i s) ++ bases_in (get_or s i 0 ∷ [])
  bases_more = ap bases_in (take_more s i 0 h) ∙ bases-append (take i s) (get_or s i 0 ∷ [])

  pub bases_more_some : 0 < base_of (get_or s i 0) → bases_in (take (i + 1) s) ≡ bases_in (take i s) ++ (base_of (get_or s i 0) ∷ [])
  bases_more_some q = bases_more ∙ rw (lt-ltb 0 (base_of (get_or s i 0)) q)

  pub bases_more_none : base_of (get_or s i 0) ≤ 0 → bases_in (take (i + 1) s) ≡ bases_in (take i s)
  bases_more_none q = bases_more ∙ rw (le-ltb 0 (base_of (get_or s i 0)) q) (append-nil (bases_in (take i s)))

-- of the first bytes they are the first
pub bases_fewer : (s : List ℕ) (i : ℕ) → length (bases_in (take i s)) ≤ length (bases_in s)
bases_fewer s i =
    let e : bases_in (take i s ++ drop i s) ≡ bases_in (take i s) ++ bases_in (drop i s) = bases-append (take i s) (drop i s) in
    omega (arith, ap length (ap bases_in (sym (take-append-drop i s)) ∙ e), length-append (bases_in (take i s)) (bases_in (drop i s)))

-- ---- what a look-up answers

pub found_some : (b : ℕ) (r : Option ℕ) → MatchOption r (base_of b ≡ 0) (λ a. (a ≡ base_of b) × (0 < a)) → is_some r ≡ true → 0 < base_of b
found_some b None m e = cc
found_some b (Some a) m e = omega (arith, m.0, m.1)

pub found_none : (b : ℕ) (r : Option ℕ) → MatchOption r (base_of b ≡ 0) (λ a. (a ≡ base_of b) × (0 < a)) → is_some r ≡ false → base_of b ≤ 0
found_none b None m e = omega (arith, m)
found_none b (Some a) m e = cc
