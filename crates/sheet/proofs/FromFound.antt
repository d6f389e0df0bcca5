-- What a caller learns from a sheet found.
-- Assumes nothing.
use mathlib.Core.Path.{◌≡◌, sym, ap, ◌∙◌}
use mathlib.Core.List.{List}
use Prim.Native.Nat.{ℕ, ◌≤◌, ◌+◌}
use native.Mathlib.Omega.{arith}
use lib.ListN.{length}
use Rattle.ring.specs.declared.answer.Marked.{Marked}
use Rattle.ring.specs.Answers.{done_with}
use Rattle.sheet.specs.Found.{Sheet}
use Rattle.sheet.specs.Sheet.{trailer_size}
use Rattle.sheet.specs.Trailer.{way_back, before, contents_in, sheet_in, found_of, number_of}
use Rattle.sheet.proofs.Numbers.{sheet_found, taken_sheet}

module _ (b : List ℕ) (m : Marked) (k bf : ℕ) (e : Sheet m k bf ≡ found_of b) where
  told_done : number_of (found_of b) ≡ 0
  told_done = sym (ap number_of e)

  told_in : Sheet m k bf ≡ sheet_in b
  told_in = let t = taken_sheet b told_done in e ∙ sym (sheet_found b t.0 t.1)

  told_marks : m ≡ done_with (way_back b) (contents_in b).start (contents_in b).strand
  told_marks = let h = told_in in cc

  told-before : bf ≡ before b
  told-before = let h = told_in in cc

  told_n : m.n ≡ way_back b
  told_n = ap (λ (m : Marked). m.n) told_marks

  -- the letters and the trailer stand behind the bytes before
  pub told_fits : bf + m.n + trailer_size ≤ length b
  told_fits = let r = (taken_sheet b told_done).0.reaches in omega (arith, told-before, told_n, r.reach, r.trailed.long)
