-- The deposit of letters, start and strand that are a key's: its own key, start and strand are those, and it is one reading of the letters.
-- Assumes nothing.
use mathlib.Core.Path.{◌≡◌, refl, sym, ap, ◌∙◌, subst}
use mathlib.Core.Bool.{true}
use mathlib.Core.List.{List}
use Prim.Native.Nat.{ℕ, ◌≤◌, ◌<◌, ◌-◌}
use native.Mathlib.Omega.{arith}
use borrow.Author.Tests.{eq-eqb, ne_eqb}
use lib.ListN.{length}
use Rattle.words.specs.Rings.Ring.{reading}
use Rattle.words.specs.Keys.Strand.{opposite, on_strand, strand, key_start, key}
use Rattle.words.proofs.Keys.Strand.{opposite-reading}
use Rattle.ring.specs.Judging.{Permitted}
use Rattle.ring.specs.Answers.{IsKey, deposit, is_key}
use Rattle.ring.proofs.Permits.{permitted_lowest, permitted_strand}
use Rattle.ring.proofs.KeyFit.{is_key_is, is_key_true, deposit_one}
use Rattle.ring.proofs.MarkLaws.{start_below}
use Rattle.ring.proofs.ComparedLemmas.{length-key}

pub permitted_key : (kind : ℕ) (w : List ℕ) → Permitted kind w → Permitted kind (key kind w)
unfolding key
permitted_key kind w p = permitted_lowest kind (on_strand (strand kind w) w) (permitted_strand kind (strand kind w) w p)

-- a ring has its own key, so the key turned back is the ring, and what the key has passes the test
module _ (kind : ℕ) (w : List ℕ) (p : Permitted kind w) where
  abbrev own : IsKey kind (key kind w) (key_start kind w) (strand kind w)
  own = record { ring = w; permitted = p; letters = refl; start = refl; strands = refl }

  pub deposit_back : deposit (key kind w) (key_start kind w) (strand kind w) ≡ w
  deposit_back = sym (deposit_one kind (key kind w) (key_start kind w) (strand kind w) own)

  pub ring_passes : is_key kind (key kind w) (key_start kind w) (strand kind w) ≡ true
  ring_passes = is_key_true kind (key kind w) (key_start kind w) (strand kind w) own

-- what passes the test is what the deposit's key has
module _ (kind : ℕ) (k : List ℕ) (at s : ℕ) (e : is_key kind k at s ≡ true) where
  has : IsKey kind k at s
  has = is_key_is kind k at s e

  is : has.ring ≡ deposit k at s
  is = deposit_one kind k at s has

  pub passes_permitted : Permitted kind (deposit k at s)
  passes_permitted = subst (Permitted kind) is has.permitted

  pub passes_key : key kind (deposit k at s) ≡ k
  passes_key = ap (key kind) (sym is) ∙ has.letters

  pub passes_start : key_start kind (deposit k at s) ≡ at
  passes_start = ap (key_start kind) (sym is) ∙ has.start

  pub passes_strand : strand kind (deposit k at s) ≡ s
  passes_strand = ap (strand kind) (sym is) ∙ has.strands

  -- the start is a position of the letters
  pub passes_below : at < length k
  passes_below =
      let n : 0 < length (deposit k at s) = passes_permitted.some in
      omega (arith, start_below kind (deposit k at s) n, length-key kind (deposit k at s) n, passes_start, ap length passes_key)

-- ---- the deposit as one reading of the letters

pub deposit_other : (k : List ℕ) (at s : ℕ) → s ≡ 1 → at ≤ length k → deposit k at s ≡ reading (on_strand 1 k) at
unfolding deposit
deposit_other k at s e h =
    let f : length k - (length k - at) ≡ at = omega arith in
    rw (eq-eqb s 1 e) (opposite-reading k (length k - at) ∙ ap (reading (opposite k)) f)

pub deposit_own : (k : List ℕ) (at s : ℕ) → (s ≡ 1 → ⊥) → deposit k at s ≡ reading (on_strand 0 k) (length k - at)
unfolding deposit
deposit_own k at s e = rw (ne_eqb s 1 e)
