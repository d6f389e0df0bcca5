-- The verdict on a ring by its number, and what is judged behind it.
-- Assumes nothing.
use mathlib.Core.Path.{◌≡◌, sym, ap, ◌∙◌}
use mathlib.Core.Bool.{Bool, false, not}
use mathlib.Core.List.{List, [], ◌∷◌, ◌++◌}
use Prim.Native.Nat.{ℕ}
use native.Mathlib.Omega.{arith}
use borrow.Author.Tests.{ne_eqb, le-ltb}
use lib.ListN.{length}
use Rattle.ring.specs.Verdict.{Verdict}
use Rattle.ring.specs.Verdict.{Taken, Short}
use Rattle.ring.specs.Rule.{Rule, rule, judged}
use Rattle.ring.specs.Judging.{most, first_bad, Permitted, ring_rules, verdict, taken, number_of}
use Rattle.ring.proofs.Exactly.{good_all, number_taken, taken_permitted}
use Rattle.ring.proofs.Rules.{done_clear, clear_more, refused_more}

-- ---- 0 is given for Taken alone

pub number_refused : (v : Verdict) → (number_of v ≡ 0 → ⊥) → taken v ≡ false
number_refused v n = ne_eqb (number_of v) 0 n

pub number_permitted : (kind : ℕ) (w : List ℕ) (short : Bool) → number_of (verdict kind w short) ≡ 0 → Permitted kind w
number_permitted kind w short e = (taken_permitted kind w short (number_taken (verdict kind w short) e)).0

-- ---- rules behind those of the ring itself

module _ (kind : ℕ) (w : List ℕ) where
  -- a permitted ring is judged by them alone
  pub clear_behind : Permitted kind w → (more : List (Rule Verdict)) → judged (ring_rules kind w ++ more) Taken ≡ judged more Taken
  clear_behind p more =
      clear_more (ring_rules kind w) more Taken (
        ap not p.kinds,
        (ne_eqb (length w) 0 (λ z. omega (arith, p.some)), (le-ltb most (length w) p.within, (le-ltb (first_bad kind w) (length w) (good_all kind w p.letters), tt))),
      )

  -- a ring that is refused without a room is refused so whatever is judged behind
  pub refused_behind : (number_of (verdict kind w false) ≡ 0 → ⊥) → (more : List (Rule Verdict)) → judged (ring_rules kind w ++ more) Taken ≡ verdict kind w false
  unfolding verdict
  refused_behind n more =
      let no : number_of (judged (ring_rules kind w) Taken) ≡ 0 → ⊥ =
      λ e. n (ap number_of (clear_more (ring_rules kind w) (rule false Short ∷ []) Taken (done_clear number_of 0 Taken (ring_rules kind w) (omega arith) e))) in
      refused_more number_of (ring_rules kind w) more Taken no
      ∙ sym (refused_more number_of (ring_rules kind w) (rule false Short ∷ []) Taken no)
