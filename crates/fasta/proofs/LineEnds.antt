-- The first line's end, sought by its LF: while no LF is passed, the line ends no sooner than at the byte before i, since only a CR there can
-- begin its end.
-- Assumes nothing.
use mathlib.Core.Path.{◌≡◌, sym, ap, ◌∙◌}
use mathlib.Core.Bool.{true, false}
use mathlib.Core.List.{List, ◌∷◌}
use Prim.Native.Nat.{ℕ, ◌<◌, ◌≤◌, ◌+◌, ◌-◌}
use native.Mathlib.Omega.{arith}
use borrow.Author.Tests.{eq-eqb, ne_eqb}
use lib.Dec.{eqb}
use lib.ListN.{length, drop, get_or}
use Rattle.words.proofs.Order.Search.{by_test, either, lt_or_ge}
use Rattle.fasta.specs.Lines.{lf, cr, begins}
use Rattle.fasta.specs.Scan.{ends, end_in, Stands}
use Rattle.fasta.proofs.Lines.{ends-lf}
use Rattle.fasta.proofs.Scanning.{cons, gone, stands_end}

-- a CR before LF begins a line's end; no byte but LF does where no LF is next, and none but LF and CR anywhere
module _ (b : ℕ) (t : List ℕ) where
  cr_begins : b ≡ cr → begins lf t ≡ true → ends b t ≡ true
  unfolding ends
  cr_begins e f = rw (e, f)

  no_lf_next : (b ≡ lf → ⊥) → begins lf t ≡ false → ends b t ≡ false
  unfolding ends
  no_lf_next n f = rw (ne_eqb b lf n, f) (by_test (eqb b cr) (λ q. rw q) (λ q. rw q))

  no_cr : (b ≡ lf → ⊥) → (b ≡ cr → ⊥) → ends b t ≡ false
  unfolding ends
  no_cr n m = rw (ne_eqb b lf n, ne_eqb b cr m)

lf_at : (line : List ℕ) (i : ℕ) → i < length line → begins lf (drop i line) ≡ eqb (get_or line i 0) lf
lf_at line i h = rw (cons line i h)

-- no byte before i is LF, told of the last such; what is sought is where the line ends from that byte on
pub record Unended (line s : List ℕ) (i : ℕ) : Type 0 where
  pub within : i ≤ length line
  pub before : 0 < i → get_or line (i - 1) 0 ≡ lf → ⊥
  pub same : s ≡ end_in (drop (i - 1) line)

module _ (line s : List ℕ) (i : ℕ) (p : Unended line s i) where
  -- the byte before, and the text from i on
  byte_before : 0 < i → drop (i - 1) line ≡ get_or line (i - 1) 0 ∷ drop i line
  byte_before o = let e : i - 1 + 1 ≡ i = omega (arith, o) in rw e at (cons line (i - 1) (omega (arith, o, p.within)))

  -- the end from i on, where the byte before begins none
  from_here : (0 < i → ends (get_or line (i - 1) 0) (drop i line) ≡ false) → s ≡ end_in (drop i line)
  from_here n =
      either (lt_or_ge 0 i) (λ o. p.same ∙ ap end_in (byte_before o) ∙ rw (n o))
      (λ z. let e : i - 1 ≡ i = omega arith in p.same ∙ rw e)

  pub unended_all : length line ≤ i → Stands line s (length line)
  unended_all h =
      let e = gone line i h in
      stands_end line s (from_here (λ o. no_lf_next _ _ (p.before o) (ap (begins lf) e)) ∙ ap end_in e)

  module _ (h : i < length line) where
    pub unended_on : (get_or line i 0 ≡ lf → ⊥) → Unended line s (i + 1)
    unended_on n =
        let e : i + 1 - 1 ≡ i = omega arith in
        record {
          within = omega arith;
          before = λ o. rw e n;
          same = rw e (from_here (λ o. no_lf_next _ _ (p.before o) (lf_at line i h ∙ ne_eqb _ lf n)));
        }

    pub ended_cr : get_or line i 0 ≡ lf → 0 < i → get_or line (i - 1) 0 ≡ cr → Stands line s (i - 1)
    ended_cr f o c =
        let b = byte_before o in
        let e = cr_begins (get_or line (i - 1) 0) (drop i line) c (lf_at line i h ∙ eq-eqb _ lf f) in
        record { within = omega arith; is = b ∙ sym (p.same ∙ ap end_in b ∙ rw e) }

    pub ended_lf : get_or line i 0 ≡ lf → (0 < i → get_or line (i - 1) 0 ≡ cr → ⊥) → Stands line s i
    ended_lf f n =
        let e = from_here (λ o. no_cr _ _ (p.before o) (n o)) in
        let w = cons line i h in
        record { within = p.within; is = w ∙ sym (e ∙ ap end_in w ∙ rw (ends-lf _ (drop (i + 1) line) (eq-eqb _ lf f))) }
