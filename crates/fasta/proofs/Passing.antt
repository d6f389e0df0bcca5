-- The letters of a record, passed one by one: what the loop that counts them keeps of those passed.
-- Assumes nothing.
use mathlib.Core.Path.{◌≡◌, refl, sym, ◌∙◌}
use mathlib.Core.Bool.{true, false}
use mathlib.Core.List.{List, [], ◌∷◌, ◌++◌, append_assoc, append-nil}
use Prim.Native.Nat.{ℕ, ◌<◌, ◌≤◌, ◌+◌}
use native.Mathlib.Omega.{arith}
use lib.ListN.{length, drop, get_or}
use Rattle.fasta.specs.Lines.{upper}
use Rattle.fasta.specs.Scan.{keeps, turns, letters_in, rest_in}
use Rattle.fasta.proofs.Bytes.{keeps-turns}
use Rattle.fasta.proofs.Scanning.{cons}
use Rattle.fasta.proofs.Others.{length_more}

-- w are the letters to i
pub record Passing (text : List ℕ) (i : ℕ) (w : List ℕ) : Type 0 where
  pub letters : letters_in text ≡ w ++ letters_in (drop i text)
  pub rest : rest_in text ≡ rest_in (drop i text)
  pub few : length w ≤ i
  pub within : i ≤ length text

pub passing_none : (text : List ℕ) → Passing text 0 []
passing_none text = record { letters = refl; rest = refl; few = omega arith; within = omega arith }

module _ (text : List ℕ) (i : ℕ) (w : List ℕ) (p : Passing text i w) where
  -- no letter is left
  pub all_passed : letters_in (drop i text) ≡ [] → letters_in text ≡ w
  all_passed e = p.letters ∙ rw e (append-nil w)

  module _ (h : i < length text) where
    abbrev b : ℕ
    b = get_or text i 0

    abbrev t : List ℕ
    t = drop (i + 1) text

    pub passing_kept : keeps b t ≡ true → Passing text (i + 1) (w ++ (upper b ∷ []))
    passing_kept k = record {
      letters = p.letters ∙ rw (cons text i h, k) (sym (append_assoc w (upper b ∷ []) (letters_in t)));
      rest = p.rest ∙ rw (cons text i h, keeps-turns b t k);
      few = rw (length_more w (upper b)) (omega (arith, p.few));
      within = omega arith;
    }

    pub passing_on : keeps b t ≡ false → turns b t ≡ false → Passing text (i + 1) w
    passing_on k q = record {
      letters = p.letters ∙ rw (cons text i h, k, q);
      rest = p.rest ∙ rw (cons text i h, q);
      few = omega (arith, p.few);
      within = omega arith;
    }
