-- Letters judged as a key, test by test.
-- Assumes nothing.
use mathlib.Core.Path.{◌≡◌, sym, ◌∙◌}
use mathlib.Core.Bool.{Bool, true, false, true≢false}
use mathlib.Core.List.{List}
use Prim.Native.Nat.{ℕ, ◌≤◌, ◌<◌}
use native.Mathlib.Omega.{arith}
use borrow.Author.Tests.{eqb-true, eqb-false}
use lib.Dec.{eqb}
use lib.ListN.{length}
use Rattle.words.specs.Keys.Kind.{stranded}
use Rattle.words.specs.Factors.Factor.{FirstRun}
use Rattle.words.specs.Repeats.Repeat.{repeat}
use Rattle.words.proofs.Order.Search.{by_test}
use Rattle.words.proofs.Factors.Factor.{run_within}
use Rattle.words.proofs.Repeats.Necklace.{run_start, run_more, run_repeat}
use Rattle.ring.specs.Judging.{Permitted}
use Rattle.ring.specs.Strands.{left_to}
use Rattle.ring.specs.Answers.{is_key}
use Rattle.ring.proofs.KeyFit.{Fit, fit_true, not_fit}

module _ (kind : ℕ) (k : List ℕ) (at s : ℕ) where
  -- a number that is no strand's
  pub test_none : 1 < s → is_key kind k at s ≡ false
  test_none h =
      sym (not_fit kind k at s (λ f. by_test (stranded kind) (λ t. omega (arith, f.known t)) (λ t. omega (arith, f.plain t))))

  module _ (p : Permitted kind k) (size end : ℕ) (r : FirstRun k size end) where
    -- more than one run: not their own lowest reading
    pub test_more : (end ≡ length k → ⊥) → false ≡ is_key kind k at s
    test_more n = not_fit kind k at s (λ f. run_more k size end r (let z = n in omega (arith, run_within k size end r)) f.first)

    module _ (e : end ≡ length k) where
      repeat_size : repeat k ≡ size
      repeat_size = run_repeat k size end r p.some e

      -- the start is not below the repeat
      pub test_late : size ≤ at → false ≡ is_key kind k at s
      test_late h = not_fit kind k at s (λ f. omega (arith, f.below, repeat_size))

      module _ (b : at < size) where
        fits : (stranded kind ≡ false → s ≡ 0) → (stranded kind ≡ true → s ≤ 1) → (stranded kind ≡ true → left_to k s ≡ true) → Fit kind k at s
        fits x y z = record { permitted = p; first = run_start k size end r p.some e; below = rw repeat_size b; plain = x; known = y; left = z }

        pub test_plain : stranded kind ≡ false → eqb s 0 ≡ is_key kind k at s
        test_plain t =
            by_test (eqb s 0)
            (λ q. q ∙ sym (fit_true kind k at s (fits (λ x. eqb-true s 0 q) (λ x. absurd (true≢false (sym x ∙ t))) (λ x. absurd (true≢false (sym x ∙ t))))))
            (λ q. q ∙ not_fit kind k at s (λ f. eqb-false s 0 q (f.plain t)))

        module _ (t : stranded kind ≡ true) where
          pub test_left : s ≤ 1 → (a : Bool) → a ≡ left_to k s → a ≡ is_key kind k at s
          test_left h a q =
              by_test (left_to k s)
              (λ l. q ∙ l ∙ sym (fit_true kind k at s (fits (λ x. absurd (true≢false (sym t ∙ x))) (λ x. h) (λ x. l))))
              (λ l. q ∙ l ∙ not_fit kind k at s (λ f. true≢false (sym (f.left t) ∙ l)))
