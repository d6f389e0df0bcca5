-- The first letter that is no base, with a letter more.
-- Assumes nothing.
use mathlib.Core.Path.{◌≡◌}
use mathlib.Core.Bool.{true, false, cond}
use mathlib.Core.List.{List, [], ◌∷◌, ◌++◌}
use Prim.Native.Nat.{ℕ, suc, ◌<◌, ◌≤◌, ◌+◌}
use native.Mathlib.Omega.{arith}
use borrow.Author.Tests.{lt-ltb, le-ltb, ltb-true, ltb-false}
use lib.Dec.{ltb}
use lib.ListN.{length, length-append}
use Rattle.std.specs.Prelude.{Some, None}
use Rattle.std.specs.Option.{option_or}
use Rattle.words.specs.Keys.Kind.{is_letter}
use Rattle.words.proofs.Order.Search.{by_test}
use Rattle.ring.specs.Judging.{first_bad}
use Rattle.fasta.specs.Answers.{base_kind}
use Rattle.fasta.specs.Scan.{first_other}

-- with a letter more
bad_more : (w : List ℕ) (a : ℕ) → first_bad base_kind (w ++ (a ∷ []))
    ≡ cond (ltb (first_bad base_kind w) (length w)) (first_bad base_kind w) (cond (is_letter base_kind a) (length w + 1) (length w))
bad_more [] a = by_test (is_letter base_kind a) (λ e. rw e) (λ e. rw e)
bad_more (b ∷ w) a =
    let k : ℕ = first_bad base_kind w in
    by_test (is_letter base_kind b)
    (λ e. rw (e, bad_more w a) (by_test (ltb k (length w))
    (λ q. rw (q, lt-ltb (suc k) (suc (length w)) (omega (arith, ltb-true k (length w) q))))
    (λ q. rw (q, le-ltb (suc k) (suc (length w)) (omega (arith, ltb-false k (length w) q)))
    (by_test (is_letter base_kind a) (λ r. rw r (omega arith)) (λ r. rw r)))))
    (λ e. rw (e, lt-ltb 0 (suc (length w)) (omega arith)))

-- a letter that is no base stands no further back than the first
pub bad_by : (w s : List ℕ) (a : ℕ) → is_letter base_kind a ≡ false → first_bad base_kind (w ++ (a ∷ s)) ≤ length w
bad_by [] s a e = rw e (omega arith)
bad_by (b ∷ w) s a e = by_test (is_letter base_kind b) (λ q. rw q (omega (arith, bad_by w s a e))) (λ q. rw q (omega arith))

pub length_more : (w : List ℕ) (a : ℕ) → length (w ++ (a ∷ [])) ≡ length w + 1
length_more w a = length-append w (a ∷ [])

module _ (w : List ℕ) (a : ℕ) where
  pub other_good : is_letter base_kind a ≡ true → first_other (w ++ (a ∷ [])) ≡ first_other w
  unfolding first_other
  other_good e =
      let k : ℕ = first_bad base_kind w in
      rw (bad_more w a, e, length_more w a)
      (by_test (ltb k (length w)) (λ q. rw (q, lt-ltb k (length w + 1) (omega (arith, ltb-true k (length w) q))))
      (λ q. rw (q, le-ltb (length w + 1) (length w + 1) (omega arith))))

  pub other_bad : is_letter base_kind a ≡ false → first_other (w ++ (a ∷ [])) ≡ option_or (first_other w) (Some (length w))
  unfolding first_other
  other_bad e =
      let k : ℕ = first_bad base_kind w in
      rw (bad_more w a, e, length_more w a)
      (by_test (ltb k (length w)) (λ q. rw (q, lt-ltb k (length w + 1) (omega (arith, ltb-true k (length w) q))))
      (λ q. rw (q, lt-ltb (length w) (length w + 1) (omega arith))))

-- it is the first letter that is no base, and where there is none all are bases
module _ (w : List ℕ) where
  pub other_is : (i : ℕ) → first_other w ≡ Some i → (i ≡ first_bad base_kind w) × (first_bad base_kind w < length w)
  unfolding first_other
  other_is i h =
      by_test (ltb (first_bad base_kind w) (length w))
      (λ q. (let e : Some (first_bad base_kind w) ≡ Some i = rw q at h in cc, ltb-true (first_bad base_kind w) (length w) q))
      (λ q. absurd (let e : None ≡ Some i = rw q at h in cc))

  pub other_none : first_other w ≡ None → length w ≤ first_bad base_kind w
  unfolding first_other
  other_none h =
      by_test (ltb (first_bad base_kind w) (length w))
      (λ q. absurd (let e : Some (first_bad base_kind w) ≡ None = rw q at h in cc))
      (λ q. ltb-false (first_bad base_kind w) (length w) q)
