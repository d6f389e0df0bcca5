-- The start of a ring a u u .. u v, where u = v t is a Lyndon word and every reading before the first u is greater than the one there:
-- it is that first u if t is no more than a as far as it goes; else every reading before the second u is greater than the one there.
-- Assumes nothing.
use mathlib.Core.Path.{◌≡◌, sym, ap, ◌∙◌}
use mathlib.Core.List.{List, [], ◌∷◌, ◌++◌, append-nil, append_assoc}
use Prim.Native.Nat.{ℕ, zero, suc, ◌≤◌, ◌<◌, ◌+◌, ◌-◌}
use native.Mathlib.Omega.{arith}
use native.Mathlib.Nat.{add_comm, eq-or-lt_of_le, zero-add}
use lib.ListN.{length, take, drop, length-append, length-drop, take-append-drop}
use lib.Seq.{length-take-le, drop-append_seam, drop-append-le}
use Rattle.words.specs.Order.Order.{◌≺◌, ◌≪◌, ◌≼◌}
use Rattle.words.specs.Rings.Ring.{reading, IsStart}
use Rattle.words.specs.Factors.Lyndon.{Lyndon}
use Rattle.words.proofs.Order.Search.{either, lt_or_ge}
use Rattle.words.proofs.Order.Order.{irrefl, trans, lt_le, le_trans, append_left, decided, decided_more, decided_long, decided_trans, decided_under}
use Rattle.words.proofs.Factors.Lyndon.{word_below}
use Rattle.words.proofs.Factors.Route.{inside}
use Rattle.words.proofs.Factors.Run.{reading_split}
use Rattle.words.proofs.Starts.Push.{le_left, power, power_zero, power_suc, power_snoc, power_add, push, swap, AtMost, low, front, More, high, beyond}

-- every reading before n is greater than the one at n
abbrev pub Above : List ℕ → ℕ → Type 0
Above w n = (i : ℕ) → i < n → reading w n ≺ reading w i

-- a word that is decided against x t is below x a
part_below : {u t a : List ℕ} → AtMost t a → (x r s : List ℕ) → u ≪ x ++ t → u ++ r ≺ x ++ (a ++ s)
part_below {a = a} (low d) x r s h = decided (rw (← append_assoc x a s) (decided_more r s (decided_trans h (decided_under x d))))
part_below {t = t} {a = a} (front y f) x r s h = let e : x ++ (a ++ s) ≡ (x ++ t) ++ (y ++ s) = rw f (simp append_assoc) in decided (rw e (decided_more r (y ++ s) h))

module _ (w a u v t : List ℕ) (e : ℕ) (q : u ≡ v ++ t) (y : Lyndon u) (z : 0 < length v) (g : w ≡ a ++ (power (suc e) u ++ v)) (h : Above w (length a)) where
  turned : (x : List ℕ) → a ≡ t ++ x → u ++ x ≼ x ++ u
  turned [] f m = irrefl (rw append-nil at m)
  turned (c ∷ x) f m =
      let p : List ℕ = power (suc e) u in
      let b : List ℕ = c ∷ x in
      let r : reading w (length t) ≡ b ++ power (suc (suc e)) u =
      reading_split w t (b ++ (p ++ v)) (g ∙ ap (λ i. i ++ (p ++ v)) f ∙ append_assoc t b (p ++ v)) ∙ simp append_assoc (rw (← q, ← power_snoc (suc e) u)) in
      let s : reading w (length a) ≡ power (suc (suc e)) u ++ b =
      reading_split w a (p ++ v) g ∙ ap (λ i. (p ++ v) ++ i) f ∙ rw (power_snoc (suc e) u, q) (simp append_assoc) in
      irrefl (trans (rw (r, s) at (h (length t) (omega (arith, ap length f, length-append t b)))) (swap b u (suc e) m))

  -- a copy of v behind t goes through a
  cycle : AtMost t a → (t ++ v) ++ a ≼ a ++ u
  cycle (low d) = lt_le (decided (rw append_assoc (decided_more (v ++ a) u d)))
  cycle (front x f) =
      let l : (t ++ v) ++ a ≡ t ++ (u ++ x) = rw (f, q) (simp append_assoc) in
      let r : a ++ u ≡ t ++ (x ++ u) = rw f (append_assoc t x u) in
      rw (l, r) (le_left t (turned x f))

  rot : (c : ℕ) → power c u ++ v ≡ v ++ power c (t ++ v)
  rot zero = rw (power_zero, power_zero) (sym (append-nil v))
  rot (suc c) =
      power_suc_at c ∙ ap (λ x. u ++ x) (rot c) ∙ rw (power_suc c (t ++ v), q) (simp append_assoc)
    where
      power_suc_at : (c : ℕ) → power (suc c) u ++ v ≡ u ++ (power c u ++ v)
      power_suc_at c = rw power_suc (append_assoc u (power c u) v)

  -- the ring from the copy number c on
  from_copy : (c b : ℕ) → c + b ≡ suc e → w ≡ (a ++ power c u) ++ (power b u ++ v)
  from_copy c b s = g ∙ rw (← s, power_add c b u) (simp append_assoc)

  -- ---- t is no more than a as far as it goes

  module _ (k : AtMost t a) where
    -- where a copy begins
    copy : (c b : ℕ) → c + b ≡ suc e → reading w (length a) ≼ reading w (length (a ++ power c u))
    copy c b s =
        let l : reading w (length a) ≡ (power b u ++ v) ++ (power c (t ++ v) ++ a) =
        reading_split w a (power (suc e) u ++ v) g ∙ rw (← s, add_comm c b, power_add b c u, append_assoc (power b u) (power c u) v, rot c) (simp append_assoc) in
        let r : reading w (length (a ++ power c u)) ≡ (power b u ++ v) ++ (a ++ power c u) = reading_split w (a ++ power c u) (power b u ++ v) (from_copy c b s) in
        rw (l, r) (le_left (power b u ++ v) (push (t ++ v) a u c (rw (q, length-append, length-append) (omega arith)) (cycle k)))

    -- inside the last part
    last : (j : ℕ) → 0 < j → j < length v → reading w (length a) ≺ reading w (length (a ++ power (suc e) u) + j)
    last j p l =
        let b : List ℕ = power (suc e) u in
        let c : List ℕ = a ++ (b ++ take j v) in
        let x : drop j u ≡ drop j v ++ t = ap (drop j) q ∙ drop-append-le j v t (omega arith) in
        let n : length u ≡ length v + length t = ap length q ∙ length-append v t in
        let d : u ≪ drop j v ++ t = rw x at (decided_long (y.least j p (omega arith)) (rw length-drop (omega arith))) in
        let m : reading w (length c) ≡ drop j v ++ c = reading_split w c (drop j v) (g ∙ simp append_assoc (rw (take-append-drop j v))) in
        let s : length c ≡ length (a ++ b) + j = rw (← append_assoc a b (take j v), length-append (a ++ b) (take j v), length-take-le j v (omega arith)) in
        let r : reading w (length a) ≡ u ++ ((power e u ++ v) ++ a) = reading_split w a (b ++ v) g ∙ rw (power_suc e u) (simp append_assoc) in
        rw (← s, m, r) (part_below k (drop j v) ((power e u ++ v) ++ a) (b ++ take j v) d)

    later : (b c : ℕ) → c + b ≡ suc e → (j : ℕ) → length (a ++ power c u) ≤ j → j < length w → reading w (length a) ≼ reading w j
    later zero c s j m n =
        let at : ℕ = length (a ++ power c u) in
        let f : suc e ≡ c = omega arith in
        let l : length w ≡ at + length v = ap length (from_copy c 0 s) ∙ length-append (a ++ power c u) (power 0 u ++ v) ∙ rw power_zero in
        let d : length (a ++ power (suc e) u) + (j - at) ≡ j = ap (λ i. length (a ++ power i u) + (j - at)) f ∙ omega arith in
        either (eq-or-lt_of_le m) (λ x. rw (← x) (copy c 0 s)) (λ x. lt_le (rw d at (last (j - at) (omega arith) (omega arith))))
    later (suc b) c s j m n =
        let at : ℕ = length (a ++ power c u) in
        let f : drop at w ≡ u ++ (power b u ++ v) = ap (drop at) (from_copy c (suc b) s) ∙ drop-append_seam (a ++ power c u) (power (suc b) u ++ v) ∙ rw (power_suc b u) (append_assoc u (power b u) v) in
        either (lt_or_ge j (at + length u))
        (λ x. either (eq-or-lt_of_le m) (λ o. rw (← o) (copy c (suc b) s))
        (λ o. let d : at + (j - at) ≡ j = omega arith in le_trans (copy c (suc b) s) (lt_le (rw d at (inside w u (power b u ++ v) at (j - at) f y (omega arith) (omega arith))))))
        (λ x. later b (suc c) (omega arith) j (rw (power_snoc c u, ← append_assoc a (power c u) u, length-append (a ++ power c u) u) x) n)

    pub first_copy : IsStart w (length a)
    first_copy =
        let n : length a < length w = rw (g, length-append, length-append) (omega arith) in
        record {
          within = n;
          lowest = λ j l. either (lt_or_ge j (length a)) (λ x. lt_le (h j x)) (λ x. later (suc e) 0 (zero-add (suc e)) j (rw (power_zero, append-nil) x) l);
          first = λ j l m. either (lt_or_ge j (length a)) (λ x. absurd (m (length a) n (h j x))) (λ x. x);
        }

  -- ---- t is more

  less : More t a → a ++ u ≺ (t ++ v) ++ a
  less (high d) = decided (rw append_assoc (decided_more u (v ++ a) d))
  less (beyond x f l) =
      let b : u ≡ (v ++ a) ++ x = q ∙ ap (λ i. v ++ i) f ∙ sym (append_assoc v a x) in
      let n : length u ≡ length (v ++ a) + length x = ap length b ∙ length-append (v ++ a) x in
      let d : drop (length (v ++ a)) u ≡ x = ap (drop (length (v ++ a))) b ∙ drop-append_seam (v ++ a) x in
      let r : (t ++ v) ++ a ≡ a ++ (x ++ (v ++ a)) = rw f (simp append_assoc) in
      let o : u ++ [] ≪ x ++ (v ++ a) = rw d at (word_below (length (v ++ a)) [] (v ++ a) y (rw length-append (omega arith)) (omega arith)) in
      rw r (append_left a (decided (rw append-nil at o)))

  pub second_copy : More t a → Above w (length (a ++ u))
  second_copy k i l =
      let b : List ℕ = power e u ++ v in
      let r : reading w (length (a ++ u)) ≡ b ++ (a ++ u) = reading_split w (a ++ u) b (g ∙ rw (power_suc e u) (simp append_assoc)) in
      let s : reading w (length a) ≡ b ++ ((t ++ v) ++ a) = reading_split w a (power (suc e) u ++ v) g ∙ rw (power_snoc e u, q) (simp append_assoc) in
      let m : reading w (length (a ++ u)) ≺ reading w (length a) = rw (r, s) (append_left b (less k)) in
      let f : drop (length a) w ≡ u ++ b = ap (drop (length a)) g ∙ drop-append_seam a (power (suc e) u ++ v) ∙ rw (power_suc e u) (append_assoc u (power e u) v) in
      either (lt_or_ge i (length a)) (λ x. trans m (h i x))
      (λ x. either (eq-or-lt_of_le x) (λ o. rw (← o) m)
      (λ o. let d : length a + (i - length a) ≡ i = omega arith in
      trans m (rw d at (inside w u b (length a) (i - length a) f y (omega arith) (omega (arith, length-append a u))))))
