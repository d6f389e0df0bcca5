-- What a scan's loop keeps: what is sought is what the byte-wise definition F gives from i on; and laws for the ways it goes.
-- Assumes nothing.
use mathlib.Core.Path.{◌≡◌, sym, ap, ◌∙◌}
use mathlib.Core.Bool.{true, false, true≢false}
use mathlib.Core.List.{List, [], ◌∷◌}
use Prim.Native.Nat.{ℕ, ◌<◌, ◌≤◌, ◌+◌, ◌-◌}
use native.Mathlib.Omega.{arith}
use native.Mathlib.Numerals.{add-one}
use borrow.Author.Tests.{eq-eqb, ne_eqb}
use lib.Dec.{eqb}
use lib.ListN.{length, drop, get_or, drop_of_length-le, length-drop}
use lib.Seq.{drop-cons, drop-length}
use Rattle.words.proofs.Order.Search.{by_test}
use Rattle.fasta.specs.Lines.{mark, lf, begins}
use Rattle.fasta.proofs.Lines.{split_true}
use Rattle.fasta.specs.Scan.{turns, rest_in, Stands}

-- the byte at i, and the text behind it
pub cons : (text : List ℕ) (i : ℕ) → i < length text → drop i text ≡ get_or text i 0 ∷ drop (i + 1) text
cons text i h = rw add-one (drop-cons text i 0 h)

pub gone : (text : List ℕ) (i : ℕ) → length text ≤ i → drop i text ≡ []
gone text i h = drop_of_length-le text h

-- a text that begins with a byte has one
pub begins_some : (a : ℕ) (t : List ℕ) → begins a t ≡ true → 0 < length t
begins_some a [] e = absurd (true≢false (sym e))
begins_some a (b ∷ t) e = omega arith

pub turned_some : (b : ℕ) (text : List ℕ) (i : ℕ) → turns b (drop i text) ≡ true → i < length text
unfolding turns
turned_some b text i e =
    let h = begins_some mark (drop i text) (split_true (eqb b lf) (begins mark (drop i text)) e).1 in omega (arith, h, length-drop i text)

-- nothing stands at the text's end
pub stands_end : (text s : List ℕ) → s ≡ [] → Stands text s (length text)
stands_end text s e = record { within = omega arith; is = drop-length text ∙ sym e }

-- a mark behind a line's end
module _ (text : List ℕ) (i : ℕ) (h : i < length text) where
  marked : begins mark (drop i text) ≡ eqb (get_or text i 0) mark
  marked = rw (cons text i h)

  pub turned : get_or text i 0 ≡ mark → get_or text (i - 1) 0 ≡ lf → turns (get_or text (i - 1) 0) (drop i text) ≡ true
  unfolding turns
  turned e f = rw (marked, eq-eqb (get_or text (i - 1) 0) lf f, eq-eqb (get_or text i 0) mark e)

  pub unmarked : (get_or text i 0 ≡ mark → ⊥) → turns (get_or text (i - 1) 0) (drop i text) ≡ false
  unfolding turns
  unmarked n = rw (marked, ne_eqb (get_or text i 0) mark n) (by_test (eqb (get_or text (i - 1) 0) lf) (λ q. rw q) (λ q. rw q))

  pub unturned : (get_or text (i - 1) 0 ≡ lf → ⊥) → turns (get_or text (i - 1) 0) (drop i text) ≡ false
  unfolding turns
  unturned n = rw (ne_eqb (get_or text (i - 1) 0) lf n)

pub record Seeking (F : List ℕ → List ℕ) (text s : List ℕ) (i : ℕ) : Type 0 where
  pub within : i ≤ length text
  pub same : s ≡ F (drop i text)

-- it stands behind the byte at i
pub seek_next : (F : List ℕ → List ℕ) (text s : List ℕ) (i : ℕ) → Seeking F text s i → i < length text
    → F (get_or text i 0 ∷ drop (i + 1) text) ≡ drop (i + 1) text → Stands text s (i + 1)
seek_next F text s i p h e = record { within = omega arith; is = sym (p.same ∙ ap F (cons text i h) ∙ e) }

-- ---- the next header, sought by its mark: i stands one byte ahead

pub record Ahead (text s : List ℕ) (i : ℕ) : Type 0 where
  pub some : 0 < i
  pub within : i ≤ length text
  pub same : s ≡ rest_in (drop (i - 1) text)

module _ (text s : List ℕ) (i : ℕ) (p : Ahead text s i) where
  -- the byte before, and the text from i on
  ahead_here : s ≡ rest_in (get_or text (i - 1) 0 ∷ drop i text)
  ahead_here =
      let e : i - 1 + 1 ≡ i = omega (arith, p.some) in
      p.same ∙ ap rest_in (rw e at (cons text (i - 1) (omega (arith, p.some, p.within))))

  pub ahead_all : length text ≤ i → Stands text s (length text)
  ahead_all h =
      let e : rest_in (get_or text (i - 1) 0 ∷ []) ≡ [] = by_test (turns (get_or text (i - 1) 0) []) (λ q. rw q) (λ q. rw q) in
      stands_end text s (ahead_here ∙ ap (λ t. rest_in (get_or text (i - 1) 0 ∷ t)) (gone text i h) ∙ e)

  module _ (h : i < length text) where
    pub ahead_found : turns (get_or text (i - 1) 0) (drop i text) ≡ true → Stands text s i
    ahead_found t = record { within = omega arith; is = sym (ahead_here ∙ rw t) }

    pub ahead_on : turns (get_or text (i - 1) 0) (drop i text) ≡ false → Ahead text s (i + 1)
    ahead_on t =
        let e : i + 1 - 1 ≡ i = omega arith in
        record { some = omega arith; within = omega arith; same = rw e (ahead_here ∙ rw t) }
