-- What the reader takes ends in the very sheet that the writer makes for a deposit.
-- Assumes nothing.
use mathlib.Core.Path.{◌≡◌, sym, ap, ◌∙◌}
use mathlib.Core.List.{List, [], ◌∷◌, ◌++◌}
use Prim.Native.Nat.{ℕ, ◌+◌, ◌-◌}
use native.Mathlib.Omega.{arith}
use lib.ListN.{length, take, drop, get_or, length-drop, take-append-drop, drop_of_length-le}
use lib.Seq.{drop-cons, drop-drop, get_or-drop}
use Rattle.ring.specs.Judging.{Permitted}
use Rattle.sheet.specs.Sheet.{bytes_in, width, tag, trailer_size, trailer_of, bytes_of, sheet_of}
use Rattle.sheet.specs.Trailer.{Bytes, trailer, strand_at, kind_at, tag_at, way_back, before, contents_in, found_of, number_of}
use Rattle.sheet.specs.Demands.{Reaches}
use Rattle.sheet.proofs.Widths.{two_back}
use Rattle.sheet.proofs.Replies.{right_first, right_last}
use Rattle.sheet.proofs.Numbers.{letters_size, taken_sheet}

-- ---- the trailer's bytes

-- strand, kind and tag are what stands behind the two numbers
marks_are : (t : List ℕ) → length t ≡ trailer_size
    → drop strand_at t ≡ get_or t strand_at 0 ∷ get_or t kind_at 0 ∷ get_or t tag_at 0 ∷ get_or t (tag_at + 1) 0 ∷ []
marks_are t h =
    drop-cons t strand_at 0 (omega arith)
    ∙ ap (λ x. get_or t strand_at 0 ∷ x) (drop-cons t kind_at 0 (omega arith)
    ∙ ap (λ x. get_or t kind_at 0 ∷ x) (drop-cons t tag_at 0 (omega arith)
    ∙ ap (λ x. get_or t tag_at 0 ∷ x) (drop-cons t (tag_at + 1) 0 (omega arith)
    ∙ ap (λ x. get_or t (tag_at + 1) 0 ∷ x) (drop_of_length-le t {i = trailer_size} (omega arith)))))

module _ (b : List ℕ) (r : Reaches b) where
  trailer_is : Bytes b → trailer b ≡ trailer_of (length (contents_in b).letters) (contents_in b).start (contents_in b).strand (contents_in b).kind
  trailer_is y =
      let t : List ℕ = trailer b in
      let l : length t ≡ trailer_size = length-drop (length b - trailer_size) b ∙ omega (arith, r.trailed.long) in
      let g : get_or t tag_at 0 ∷ get_or t (tag_at + 1) 0 ∷ [] ≡ tag = cc (right_first t r.trailed.right, right_last t r.trailed.right) in
      sym (two_back width t (omega arith) (λ i. rw get_or-drop (y _)))
      ∙ ap (λ x. bytes_in width (way_back b) ++ bytes_in width (contents_in b).start ++ x) (marks_are t l ∙ ap (λ x. get_or t strand_at 0 ∷ get_or t kind_at 0 ∷ x) g)
      ∙ ap (λ n. trailer_of n (contents_in b).start (contents_in b).strand (contents_in b).kind) (sym (letters_size b r))

  -- the bytes from the first letter on are those of the letters and marks read
  sheet_bytes : Bytes b → drop (before b) b ≡ bytes_of (contents_in b)
  sheet_bytes y =
      let e : before b + way_back b ≡ length b - trailer_size = omega (arith, r.reach) in
      sym (take-append-drop (way_back b) (drop (before b) b))
      ∙ ap (λ t. (contents_in b).letters ++ t) (drop-drop (way_back b) (before b) b ∙ ap (λ i. drop i b) e ∙ trailer_is y)

-- bytes that end in the sheet of a deposit
pub record Ends (b : List ℕ) : Type 0 where
  pub front : List ℕ
  pub kind : ℕ
  pub deposit : List ℕ
  pub permitted : Permitted kind deposit
  pub are : front ++ sheet_of kind deposit ≡ b

-- what the reader takes does
pub taken-ends : (b : List ℕ) → Bytes b → number_of (found_of b) ≡ 0 → Ends b
unfolding sheet_of
taken-ends b y z =
    let s = taken_sheet b z in
    record {
      front = take (before b) b;
      kind = s.1.kind;
      deposit = s.1.deposit;
      permitted = s.1.permitted;
      are = ap (λ x. take (before b) b ++ x) (ap bytes_of s.1.is ∙ sym (sheet_bytes b s.0.reaches y)) ∙ take-append-drop (before b) b;
    }
