-- `suffix::fill_block` meets its contract. The invariant: the entries so far are right, and the block has not ended.
use Rattle.std.proofs.Common.{◌≡◌, refl, ℕ, ◌-◌, ◌%◌, ◌<◌, ◌≤◌, List, length, get_or, arith, rules}
use Rattle.words.specs.Suffixes.Block.{Head, Block}
use Rattle.words.proofs.Suffixes.Fill.{block_first, block_greater, block_equal, block_end, filled_again, filled_below, fill_first, fill_greater, fill_equal}
use native.Mathlib.Nat.{mod-lt}
use Rattle.ring.proofs.suffix.fill_block.Goals.{then-ring-l-2, else-ring-l-2, else-loop-l-test, then-loop-l-test+then-ring-l}
use Rattle.ring.proofs.suffix.fill_block.Goals as goal

-- the last whole word's end, in bounds
next : (w : List ℕ) (m p l : ℕ) → Block w m p l → (l < length w → get_or w l 0 < get_or w (l - p) 0)
    → let r = l - (l - m) % p in (m < r) × (r ≤ length w) × Head w r
next w m p l b g =
    let h = mod-lt (l - m) b.some in
    let e = block_end _ _ _ _ b g in (omega (arith, h, b.order), e.within, e)

pub loop-l-init : goal.loop-l-init
loop-l-init c =
    let m = c.requires.in_ring in
    let f = fill_first _ _ _ _ c.requires.head.1 m.0 (omega arith) c.requires.head.0 in
    (block_first _ _ c.requires.head.0 m.0, filled_again _ _ _ _ f, refl)

pub overflow_add-table : goal.overflow_add-table
overflow_add-table c =
    let i = c.loop-l.invariant in omega (arith, filled_below _ _ _ _ (c.loop-l.l - c.loop-l.p) i.1 (omega arith) (omega arith))

pub loop-l-preserved : goal.loop-l-preserved
loop-l-preserved c =
    let i = c.loop-l.invariant in
    let h = c.loop-l-test.true in
    elim c.if-ring-l-2.branch [
      | then-ring-l-2 w ↦ let b = block_greater _ _ _ _ i.0 h w.if-ring-l-2.true in rw (w.table-is, w.p-is) (b, fill_greater _ _ _ _ i.1 h (search rules) _ b, i.2)
      | else-ring-l-2 w ↦ let b = block_equal _ _ _ _ i.0 h (omega arith) in rw (w.table-is, w.p-is) (b, fill_equal _ _ _ _ i.1 h (search rules) _ _ i.0 b, i.2)
    ]

pub returns-clause-next : goal.returns-clause-next
returns-clause-next c =
    let i = c.loop-l.invariant in
    elim c.loop-l-test.branch [
      | else-loop-l-test w ↦ rw (w.end-is, i.2) (let e : c.loop-l.l ≡ length c.args.ring.now = omega arith in next _ _ _ _ (rw e at i.0) (λ h. absurd (omega arith)))
      | then-loop-l-test+then-ring-l w ↦ rw w.end-is (next _ _ _ _ i.0 (λ h. w.if-ring-l.true))
    ]
