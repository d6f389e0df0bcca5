-- What the calls on a ring that is printed answer: none declines, and the numbers are small.
-- Assumes nothing.
use mathlib.Core.Path.{◌≡◌, refl, sym, ap, ap₂, ◌∙◌}
use mathlib.Core.Bool.{false, true≢false}
use mathlib.Core.List.{List}
use Prim.Native.Nat.{ℕ, ◌≤◌, ◌<◌, ◌*◌}
use native.Mathlib.Omega.{arith}
use lib.ListN.{length, take}
use lib.Seq.{take-append_seam}
use borrow.Author.Tests.{eq-eqb}
use Rattle.std.proofs.Common.{Ok}
use Rattle.words.specs.Rings.Ring.{start}
use Rattle.words.specs.Keys.Strand.{strand, key_start}
use Rattle.words.specs.Factors.Factor.{factor_table}
use Rattle.words.specs.Repeats.Repeat.{repeat}
use Rattle.words.specs.Duels.Duel.{start_of, pairs}
use Rattle.words.proofs.Rings.Ring.{start_is}
use Rattle.report.specs.Report.{longest, Printable}
use Rattle.words.proofs.Repeats.Repeat.{repeat_is}
use Rattle.words.proofs.Duels.Pairs.{duels_end, pairs_three}
use Rattle.ring.specs.Verdict.{Taken}
use Rattle.ring.specs.declared.refusals.Refusal.{Refusal}
use Rattle.ring.specs.declared.outcome.Factors.{Factors}
use Rattle.ring.specs.declared.outcome.Duels.{Duels}
use Rattle.ring.specs.declared.outcome.Marks.{Marks}
use Rattle.ring.specs.Judging.{verdict, number_of, over, after}
use Rattle.ring.specs.Answers.{fewer, factored_of, fought_of, repeated_of, lettered_of}
use Rattle.ring.specs.Numbered.{strand_number}
use Rattle.ring.specs.Told.{verdict_of, told_factors, told_duels, told_repeat, told_marks}
use Rattle.ring.proofs.Exactly.{permitted_taken, roomed}
use Rattle.ring.proofs.ToldLaws.{refused}

-- what was written to the front of a room
pub front : (new old : List ℕ) → take (length new) (over new old) ≡ new
front new old = take-append_seam new _

module _ (w : List ℕ) (p : Printable w) where
  pub alone : verdict 1 w false ≡ Taken
  alone = permitted_taken 1 w false p.permitted refl

  refusal_none : (e : Refusal) → number_of (verdict_of e) ≡ 0 → ⊥
  refusal_none e n = true≢false (sym (eq-eqb (number_of (verdict_of e)) 0 n) ∙ refused e)

  -- no call that is lent no table or room declines
  pub not_refused : (e : Refusal) → number_of (verdict_of e) ≡ number_of (verdict 1 w false) → ⊥
  not_refused e n = refusal_none e (n ∙ ap number_of alone)

  pub duels_told : (d : Duels) → told_duels (Ok d) ≡ fought_of 1 w → (d.start ≡ start w) × (d.pairs ≡ pairs w)
  duels_told d e =
      let f = rw alone at e in
      (ap (λ a. a.start) f ∙ ap start_of (duels_end w p.permitted.some), ap (λ a. a.pairs) f)

  pub repeat_told : (n : ℕ) → told_repeat (Ok n) ≡ repeated_of 1 w → n ≡ repeat w
  repeat_told n e = ap (λ a. a.repeat) (rw alone at e)

  module _ (size : ℕ) (h : length w ≤ size) where
    -- nor one that is lent room enough
    pub not_short : (e : Refusal) → number_of (verdict_of e) ≡ number_of (verdict 1 w (fewer size w)) → ⊥
    not_short e n = refusal_none e (n ∙ ap number_of (roomed 1 w size p.permitted h))

    pub factors_told : (f : Factors) → told_factors (Ok f) ≡ factored_of 1 w size → f.count ≡ length (factor_table w)
    factors_told f e = ap (λ a. a.count) (rw (roomed 1 w size p.permitted h) at e)

    pub marks_told : (m : Marks) → told_marks (Ok m) ≡ lettered_of 1 w size → (m.n ≡ length w) × (m.start ≡ key_start 1 w) × (strand_number m.strand ≡ strand 1 w)
    marks_told m e =
        let f = rw (roomed 1 w size p.permitted h) at e in
        (ap (λ a. a.n) f, ap (λ a. a.start) f, ap (λ a. a.strand) f)

  module _ (t x : List ℕ) (h : length w ≤ length t) where
    -- the front of a table that was filled
    pub told_table : (new : List ℕ) (n : ℕ) → n ≡ length new → x ≡ after (verdict 1 w (fewer (length t) w)) new t → take n x ≡ new
    told_table new n l e = ap₂ take l (e ∙ rw (roomed 1 w (length t) p.permitted h)) ∙ front new t

  -- ---- all of it is small

  pub start_small : start w < longest
  start_small = omega (arith, (start_is w p.permitted.some).within, p.within)

  pub repeat_small : repeat w ≤ longest
  repeat_small = omega (arith, (repeat_is w p.permitted.some).turns.within, p.within)

  pub pairs_small : pairs w ≤ 3 * longest
  pairs_small = omega (arith, pairs_three w, p.within)
