-- What the walk's loop keeps: the walk of the book is the walk of what is left, with the sheets found behind it.
-- Assumes nothing.
use mathlib.Core.Path.{◌≡◌, refl, sym, ap, ◌∙◌}
use mathlib.Core.List.{List, [], ◌∷◌}
use Prim.Native.Nat.{ℕ, suc, ◌≤◌, ◌<◌, ◌+◌, ◌-◌}
use native.Mathlib.Omega.{arith}
use native.Mathlib.Numerals.{add-one}
use lib.ListN.{length, take, drop}
use lib.Seq.{length-take-le}
use Rattle.ring.specs.declared.answer.Marked.{Marked}
use Rattle.sheet.specs.Found.{Sheet}
use Rattle.sheet.specs.Sheet.{trailer_size}
use Rattle.sheet.specs.Trailer.{found_of}
use Rattle.sheet.specs.Book.{walk_back, walk_of}
use Rattle.sheet.proofs.FromFound.{told_fits}
use Rattle.sheet.proofs.Books.{walk_step}

pub record Walking (book rest : List ℕ) (sheets : ℕ) : Type 0 where
  pub fuel : ℕ
  pub behind : List (List ℕ)
  pub same : walk_of book ≡ walk_back fuel rest behind
  pub enough : length rest ≤ fuel
  pub size : length behind ≡ sheets
  pub within : sheets + length rest ≤ length book

pub walking_first : (book : List ℕ) → Walking book book 0
unfolding walk_of
walking_first book = record { fuel = length book; behind = []; same = refl; enough = omega arith; size = refl; within = omega arith }

module _ (rest : List ℕ) (m : Marked) (k bf : ℕ) (e : Sheet m k bf ≡ found_of rest) where
  -- what stands before a sheet that is found is shorter by a trailer or more
  pub walking_fits : bf + trailer_size ≤ length rest
  walking_fits = omega (arith, told_fits rest m k bf e)

  pub size_before : bf ≡ length (take bf rest)
  size_before = sym (length-take-le bf rest (omega (arith, walking_fits)))

  pub walking_less : length (take bf rest) < length rest
  walking_less = omega (arith, walking_fits, size_before)

  pub walking_on : (book : List ℕ) (sheets : ℕ) → Walking book rest sheets → Walking book (take bf rest) (sheets + 1)
  walking_on book sheets w =
      let f : w.fuel ≡ suc (w.fuel - 1) = omega (arith, w.enough, walking_less) in
      record {
        fuel = w.fuel - 1;
        behind = drop bf rest ∷ w.behind;
        same = w.same ∙ ap (λ x. walk_back x rest w.behind) f ∙ walk_step (w.fuel - 1) rest w.behind (Sheet m k bf) (omega (arith, walking_less)) (sym e);
        enough = omega (arith, w.enough, walking_less);
        size = rw add-one (ap suc w.size);
        within = omega (arith, w.within, walking_less);
      }
