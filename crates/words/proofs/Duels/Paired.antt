-- Two readings compared pair by pair: equal letters below k, and what the pair at k says.
-- Assumes nothing.
use mathlib.Core.Path.{◌≡◌, sym, ap, ◌∙◌}
use mathlib.Core.Bool.{false}
use mathlib.Core.List.{List}
use Prim.Native.Nat.{ℕ, ◌≤◌, ◌<◌, ◌+◌}
use native.Mathlib.Omega.{arith}
use borrow.Author.Tests.{lt-ltb, le-ltb}
use lib.Dec.{ltb}
use lib.ListN.{length, get_or}
use lib.Seq.{ext_get_or}
use Rattle.words.specs.Order.Order.{◌≺◌, before}
use Rattle.words.specs.Rings.Ring.{reading, around}
use Rattle.words.specs.Duels.Paired.{Paired, Met}
use Rattle.words.proofs.Order.Search.{either, lt_or_ge}
use Rattle.words.proofs.Order.Order.{lower_at, irrefl, lt_le, before_true, before_false}
use Rattle.words.proofs.Rings.Turn.{length-reading, reading_at}

-- a lesser letter at k decides
pub paired_below : (u v : List ℕ) (p q k : ℕ) → length u ≡ length v → p ≤ length u → q ≤ length v → k < length u → Paired u v p q k
    → around u (p + k) < around v (q + k) → reading u p ≺ reading v q
paired_below u v p q k n x y h m l =
    lower_at (reading u p) (reading v q) k (rw (length-reading u p x, length-reading v q y) n) (rw (length-reading u p x) h)
    (λ j i. rw (reading_at u p j x (omega arith), reading_at v q j y (omega arith)) (m j i))
    (rw (reading_at u p k x h, reading_at v q k y (omega arith)) l)

module _ (u v : List ℕ) (p q k : ℕ) (n : length u ≡ length v) (x : p ≤ length u) (y : q ≤ length v) (a : Met u v p q k) where
  -- letters that differ at k
  pub before_at : k < length u → (c d : ℕ) → c ≡ around u (p + k) → d ≡ around v (q + k) → ltb c d ≡ before (reading u p) (reading v q)
  before_at h c d e f =
      either (lt_or_ge c d) (λ l. rw (lt-ltb c d l, before_true (paired_below u v p q k n x y h a.agree (rw (← e, ← f) l))))
      (λ l. let o : c ≡ d → ⊥ = λ z. a.differs h (sym e ∙ z ∙ f) in
      rw (le-ltb c d l, before_false _ _ (lt_le (paired_below v u q p k (sym n) y x (omega arith) (λ j i. sym (a.agree j i)) (omega arith)))))

  -- n equal pairs
  pub same_at : length u ≤ k → reading u p ≡ reading v q
  same_at h =
      let m : length (reading u p) ≡ length u = length-reading u p x in
      ext_get_or 0 _ _ (m ∙ n ∙ sym (length-reading v q y)) (λ j l. let i : j < length u = rw m at l in reading_at u p j x i ∙ a.agree j (omega arith) ∙ sym (reading_at v q j y (omega arith)))

  pub differ_at : reading u p ≡ reading v q → length u ≤ k
  differ_at e =
      either (lt_or_ge k (length u)) (λ h. absurd (a.differs h (sym (reading_at u p k x h) ∙ ap (λ z. get_or z k 0) e ∙ reading_at v q k y (omega arith)))) (λ h. h)

  pub before_same : length u ≤ k → false ≡ before (reading u p) (reading v q)
  before_same h = rw (same_at h) (sym (before_false (reading v q) (reading v q) irrefl))
