-- `ring::start::start_run` meets its contract: `start` is the lowest of the runs' heads before m, the first of them if several are equal;
-- `found` is the run there.
use Rattle.std.proofs.Common.{◌≡◌, ℕ, ◌+◌, ◌≤◌, List, length, drop, refl, sym, ◌∙◌, arith, length-drop}
use Rattle.words.specs.Rings.Ring.{reading}
use Rattle.words.specs.Factors.Factor.{FirstRun}
use Rattle.words.proofs.Rings.Ring.{better_either}
use Rattle.words.proofs.Factors.Factor.{run_within}
use Rattle.words.proofs.Factors.Run.{best_none, best_next, best_last, best_below, some, best_run_new, best_run_old, best_run_last}
use Rattle.ring.proofs.start.start_run.Goals.{then-start-m, else-start-m}
use Rattle.ring.proofs.start.start_run.Goals as goal

-- the first run of the letters from m on stays in the ring
run_fits : (w : List ℕ) (m n p e : ℕ) → length w ≡ n → m ≤ n → FirstRun (drop m w) p e → m + e ≤ n
run_fits w m n p e h l r = omega (arith, run_within _ _ _ r, length-drop m w)

pub loop-m-init : goal.loop-m-init
loop-m-init c =
    let e = better_either (λ k. k ≡ 0) (reading c.args.side.now) 0 0 refl refl in
    let f = c.first_run-found.ensures in
    let l = run_within _ _ _ f in
    let b = best_next c.args.side.now 0 _ _ f 0 c.requires (best_none c.args.side.now) in
    let z : 0 + c.first_run-found.result.end ≡ c.first_run-found.result.end = omega arith in
    (c.len-n.ensures.value, omega arith, rw (z, e) at b, some f)

pub lower_of-start-requires : goal.lower_of-start-requires
lower_of-start-requires c =
    let i = c.loop-m.invariant in (omega arith, best_below _ _ _ (omega arith) i.2)

pub overflow_add-m : goal.overflow_add-m
overflow_add-m c =
    let i = c.loop-m.invariant in omega (arith, run_fits _ _ _ _ _ (sym i.0) i.1 (rw c.back.ensures at c.first_run-run.ensures))

pub loop-m-preserved : goal.loop-m-preserved
loop-m-preserved c =
    let i = c.loop-m.invariant in
    let r = rw c.back.ensures at c.first_run-run.ensures in
    let b = best_next _ _ _ _ r _ (omega arith) i.2 in
    let e = c.lower_of-start.ensures in (
      i.0,
      run_fits _ _ _ _ _ (sym i.0) i.1 r,
      rw e b,
      elim c.if-start-m.branch [
        | then-start-m w ↦ rw w.found-is (best_run_new _ _ _ _ _ _ r w.if-start-m.true)
        | else-start-m w ↦ rw (w.found-is, e) (best_run_old _ _ _ _ _ _ i.3 (λ q. w.if-start-m.false (e ∙ q)))
      ],
    )

pub returns-clause-value : goal.returns-clause-value
returns-clause-value c =
    let i = c.loop-m.invariant in
    let e : c.loop-m.m ≡ length c.args.side.now = omega arith in
    best_last _ _ (omega arith) (rw e at i.2)

pub returns-clause-inside : goal.returns-clause-inside
returns-clause-inside c = best_below _ _ _ c.requires c.loop-m.invariant.2

pub returns-clause-run : goal.returns-clause-run
returns-clause-run c = best_run_last _ _ _ _ _ (omega arith) c.loop-m.invariant.3
