-- Copies of a word before and behind another word.
-- Assumes nothing.
use mathlib.Core.Path.{◌≡◌, refl, sym, ap, ◌∙◌}
use mathlib.Core.List.{List, [], ◌++◌, append-nil, append_assoc}
use Prim.Native.Nat.{ℕ, zero, suc, ◌+◌}
use native.Mathlib.Omega.{arith}
use native.Mathlib.Nat.{zero-add, suc-add}
use lib.ListN.{length, length-append}
use Rattle.words.specs.Order.Order.{◌≺◌, ◌≼◌}
unfoldable pub use Rattle.words.specs.Starts.Start.{power}
pub use Rattle.words.specs.Starts.Start.{AtMost, low, front, More, high, beyond}
use Rattle.words.proofs.Order.Search.{either}
use Rattle.words.proofs.Order.Order.{irrefl, trans, lt_le, le_trans, le_cases, append_left, cancel_left, decided, decided_more, decided_long}

pub le_left : (r : List ℕ) {u v : List ℕ} → u ≼ v → r ++ u ≼ r ++ v
le_left r {u} {v} h k = h (cancel_left r v u k)

pub le_right : (u : List ℕ) {x y : List ℕ} → length x ≡ length y → x ≼ y → x ++ u ≼ y ++ u
le_right u e h = either (le_cases h) (λ q. rw q irrefl) (λ l. lt_le (decided (decided_more u u (decided_long l (omega arith)))))

-- ---- powers of a word

pub power_zero : (u : List ℕ) → power 0 u ≡ []
unfolding power
power_zero u = refl

pub power_suc : (j : ℕ) (u : List ℕ) → power (suc j) u ≡ u ++ power j u
unfolding power
power_suc j u = refl

pub power_snoc : (j : ℕ) (u : List ℕ) → power (suc j) u ≡ power j u ++ u
power_snoc zero u = rw (power_suc, power_zero) (append-nil u)
power_snoc (suc j) u = power_suc (suc j) u ∙ ap (λ x. u ++ x) (power_snoc j u) ∙ sym (append_assoc u (power j u) u) ∙ rw (power_suc j u)

pub power_add : (a b : ℕ) (u : List ℕ) → power (a + b) u ≡ power a u ++ power b u
power_add zero b u = rw (zero-add, power_zero)
power_add (suc a) b u = rw (suc-add, power_suc, power_suc, append_assoc) (ap (λ x. u ++ x) (power_add a b u))

pub power-length : (j : ℕ) (u v : List ℕ) → length u ≡ length v → length (power j u) ≡ length (power j v)
power-length zero u v e = rw (power_zero, power_zero)
power-length (suc j) u v e = rw (power_suc, power_suc, length-append, length-append) (omega (arith, power-length j u v e))

-- to push copies through a word
pub push : (κ a u : List ℕ) (j : ℕ) → length κ ≡ length u → κ ++ a ≼ a ++ u → power j κ ++ a ≼ a ++ power j u
push κ a u zero e h = rw (power_zero, power_zero, append-nil) irrefl
push κ a u (suc j) e h =
    let n : length (power j κ ++ a) ≡ length (a ++ power j u) = simp length-append (omega (arith, power-length j κ u e)) in
    let x : power (suc j) κ ++ a ≡ power j κ ++ (κ ++ a) = rw (power_snoc j κ, append_assoc) in
    let y : power j κ ++ (a ++ u) ≡ (power j κ ++ a) ++ u = sym (append_assoc (power j κ) a u) in
    let z : (a ++ power j u) ++ u ≡ a ++ power (suc j) u = append_assoc a (power j u) u ∙ rw (power_snoc j u) in
    rw (x, ← z) (le_trans (le_left (power j κ) h) (rw y (le_right u n (push κ a u j e h))))

pub swap : (y u : List ℕ) (j : ℕ) → y ++ u ≺ u ++ y → y ++ power (suc j) u ≺ power (suc j) u ++ y
swap y u zero h = rw (power_suc, power_zero, append-nil) h
swap y u (suc j) h =
    let p : List ℕ = power (suc j) u in
    let d = decided (decided_more p p (decided_long h (simp length-append (omega arith)))) in
    rw (power_suc (suc j) u, ← append_assoc y u p, append_assoc u p y) (trans d (rw (append_assoc u y p) (append_left u (swap y u j h))))
