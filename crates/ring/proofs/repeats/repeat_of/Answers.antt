-- `ring::repeats::repeat_of` meets its contract: each case is one of `Rattle.words.proofs.Repeats.Closing`.
use Rattle.std.proofs.Common.{◌≡◌, ℕ, ◌+◌, ◌<◌, ◌≤◌, List, length, drop, sym, ◌∙◌, arith, length-drop}
use Rattle.words.specs.Rings.Ring.{start}
use Rattle.words.specs.Factors.Factor.{FirstRun}
use Rattle.words.proofs.Rings.Ring.{start_is}
use Rattle.words.proofs.Factors.Factor.{run_within}
use Rattle.words.proofs.Repeats.Closing.{closed_whole, closed_once, closed_none}
use mathlib.Core.Bool.{true≢false}
use Rattle.ring.proofs.repeats.repeat_of.Goals as goal

run_fits : (w : List ℕ) (s : ℕ) → 0 < length w → s ≡ start w → (p e : ℕ) → FirstRun (drop s w) p e → (s + e ≤ length w) × (p ≤ e) × (s < length w)
run_fits w s h q p e r =
    let i = (start_is w h).within in
    (omega (arith, run_within _ _ _ r, length-drop s w), r.within, omega arith)

pub returns-then-end-n : goal.returns-then-end-n
returns-then-end-n c = sym (closed_whole _ c.requires.in_ring.0 _ _ (rw c.requires.in_ring.1 at c.requires.run) (c.if-end-n.true ∙ c.len-n.ensures.value))

pub overflow_sub-n : goal.overflow_sub-n
overflow_sub-n c = omega (arith, run_fits _ _ c.requires.in_ring.0 c.requires.in_ring.1 _ _ c.requires.run)

pub overflow_add-start : goal.overflow_add-start
overflow_add-start c = omega (arith, run_fits _ _ c.requires.in_ring.0 c.requires.in_ring.1 _ _ c.requires.run)

pub same_letters-requires : goal.same_letters-requires
same_letters-requires c =
    let f = run_fits _ _ c.requires.in_ring.0 c.requires.in_ring.1 _ _ c.requires.run in
    (f.0, omega arith, omega arith)

pub returns-then-same_letters : goal.returns-then-same_letters
returns-then-same_letters c =
    let f = run_fits _ _ c.requires.in_ring.0 c.requires.in_ring.1 _ _ c.requires.run in
    let q : c.args.found.run.end + c.args.found.run.size ≡ length c.args.ring.now = omega arith in
    sym (closed_once _ c.requires.in_ring.0 _ _ (rw c.requires.in_ring.1 at c.requires.run) q (rw c.requires.in_ring.1 at (c.same_letters.ensures.0 c.if-same_letters.true)))

pub returns-else-same_letters : goal.returns-else-same_letters
returns-else-same_letters c =
    c.len-n.ensures.value ∙ sym (closed_none _ c.requires.in_ring.0 _ _ (rw c.requires.in_ring.1 at c.requires.run) (λ q. c.if-end-n.false (q ∙ sym c.len-n.ensures.value))
    (λ q a. true≢false (sym (c.same_letters.ensures.1 (rw c.requires.in_ring.1 a)) ∙ c.if-same_letters.false)))

pub returns-else-n-end : goal.returns-else-n-end
returns-else-n-end c =
    c.len-n.ensures.value ∙ sym (closed_none _ c.requires.in_ring.0 _ _ (rw c.requires.in_ring.1 at c.requires.run) (λ q. c.if-end-n.false (q ∙ sym c.len-n.ensures.value)) (λ q a. c.if-n-end.false (omega arith)))
