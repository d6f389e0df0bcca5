-- The start table by blocks: of a prefix that reads b and then l letters of s, the start is the block's head or some copies of its word behind it.
-- Assumes nothing.
use mathlib.Core.Path.{◌≡◌, sym, ap, ◌∙◌}
use mathlib.Core.List.{List, [], ◌∷◌, ◌++◌, append-nil, append_assoc}
use Prim.Native.Nat.{ℕ, suc, ◌≤◌, ◌<◌, ◌+◌, ◌-◌}
use native.Mathlib.Omega.{arith}
use native.Mathlib.Nat.{eq-or-lt_of_le, add-zero, add_assoc}
use lib.ListN.{length, take, drop, length-append, length-drop, take-append-drop}
use lib.Seq.{take-take, length-take-le, drop-append_seam, drop-drop}
use Rattle.words.specs.Order.Order.{◌≪◌}
use Rattle.words.specs.Rings.Ring.{IsStart}
use Rattle.words.specs.Factors.Lyndon.{Lyndon}
use Rattle.words.specs.Factors.Factor.{longest}
pub use Rattle.words.specs.Starts.Start.{Tail, Chain, new, good, bad}
use Rattle.words.proofs.Order.Search.{either, lt_or_ge}
use Rattle.words.proofs.Order.Order.{irrefl, lt_le, decided_more, decided_left, decided_under, prefix_before}
use Rattle.words.proofs.Factors.Lyndon.{word_below}
use Rattle.words.proofs.Factors.Factor.{longest-least, run_longest}
use Rattle.words.proofs.Factors.Route.{inside}
use Rattle.words.proofs.Starts.Push.{power, power_suc, power_snoc, AtMost, low, front, More, high, beyond}
use Rattle.words.proofs.Starts.Chain.{Above, first_copy, second_copy}

-- ---- a word one u longer is tested alike

pub ok_more : {t a : List ℕ} (u : List ℕ) → AtMost t a → AtMost t (a ++ u)
ok_more {t} u (low d) = low (rw append-nil at (decided_more [] u d))
ok_more {t} u (front y e) = front (y ++ u) (rw e (append_assoc t y u))

pub not_more : {t a : List ℕ} (u : List ℕ) → ((y : List ℕ) → t ≡ a ++ y → 0 < length y → u ≪ y) → More t a → More t (a ++ u)
not_more u f (high d) = high (decided_left u d)
not_more {a = a} u f (beyond y e l) = high (rw e (decided_under a (f y e l)))

-- what ends a Lyndon word is above it, whatever follows it
pub suffix_above : (u r a z : List ℕ) (i : ℕ) → Lyndon u → 0 < i → drop i u ≡ a ++ z → 0 < length z → u ++ r ≪ z
suffix_above u r a z i y p q n =
    let d : drop (i + length a) u ≡ z = sym (drop-drop (length a) i u) ∙ ap (drop (length a)) q ∙ drop-append_seam a z in
    rw (append-nil, d) at (word_below (i + length a) r [] y (omega arith) (omega (arith, length-drop (i + length a) u, ap length d)))

-- the proper ends of the Lyndon words that are prefixes of s, up to length n, are tested against a as against b
pub record Agrees (s a b : List ℕ) (n : ℕ) : Type 0 where
  pub ok : (k i : ℕ) → k ≤ n → Lyndon (take k s) → 0 < i → AtMost (drop i (take k s)) b → AtMost (drop i (take k s)) a
  pub no : (k i : ℕ) → k ≤ n → Lyndon (take k s) → 0 < i → More (drop i (take k s)) b → More (drop i (take k s)) a

pub agrees_same : (s a : List ℕ) (n : ℕ) → Agrees s a a n
agrees_same s a n = record { ok = λ k i h y p o. o; no = λ k i h y p o. o }

-- of copies of u and then a part or the whole of u, u is the longest Lyndon prefix
power-longest : (e : ℕ) (u v t x : List ℕ) → Lyndon u → u ≡ v ++ t → x ≡ power (suc e) u ++ v → longest x ≡ length u
unfolding power
power-longest e u v [] x y q w =
    let f : v ≡ u = sym (q ∙ append-nil v) in
    run_longest (suc e) u [] x y (prefix_before [] u y.some) (w ∙ rw f (sym (power_snoc (suc e) u) ∙ sym (append-nil (power (suc (suc e)) u))))
power-longest e u v (c ∷ t) x y q w = run_longest e u v x y (rw q (prefix_before v (c ∷ t) (omega arith))) w

module _ (s : List ℕ) (l e : ℕ) (u v t : List ℕ) (r : Tail s l u v t e) where
  pub tail_length : length u + length v ≤ l
  tail_length =
      omega (arith, length-take-le l s r.inside, ap length r.whole, length-append (power (suc e) u) v, ap length (power_suc e u), length-append u (power e u))

  tail_end : drop (length v) (take (length u) s) ≡ t
  tail_end = rw r.front (ap (drop (length v)) r.cut ∙ drop-append_seam v t)

  -- u is the longest of these Lyndon words
  pub tail_longest : longest (take l s) ≡ length u
  tail_longest = power-longest e u v t (take l s) r.word r.cut r.whole

  pub tail_most : (k : ℕ) → k ≤ l → Lyndon (take k s) → k ≤ length u
  tail_most k m y =
      omega (arith, tail_longest, longest-least (take l s) k (rw (length-take-le l s r.inside) m) (rw (take-take k l s m) y))

  ends_above : (a : List ℕ) (j i : ℕ) → j ≤ length u → Lyndon (take j s) → 0 < i → (z : List ℕ) → drop i (take j s) ≡ a ++ z → 0 < length z → u ≪ z
  ends_above a j i m y p z q n =
      let x : List ℕ = take j s in
      let f : u ≡ x ++ drop j u = sym (take-append-drop j u) ∙ ap (λ c. c ++ drop j u) (ap (take j) (sym r.front) ∙ take-take j (length u) s m) in
      rw f (suffix_above x (drop j u) a z i y p q n)

  -- the tests against b, for a
  test_ok : (a b : List ℕ) → Agrees s a b l → AtMost t b → AtMost t a
  test_ok a b c o =
      rw tail_end at (c.ok (length u) (length v) (omega (arith, tail_length)) (rw r.front r.word) r.some (rw tail_end o))

  test_no : (a b : List ℕ) → Agrees s a b l → More t b → More t a
  test_no a b c o =
      rw tail_end at (c.no (length u) (length v) (omega (arith, tail_length)) (rw r.front r.word) r.some (rw tail_end o))

  agrees_next : (a b : List ℕ) (k : ℕ) → k ≤ l → Agrees s a b l → Agrees s (a ++ u) b k
  agrees_next a b k m g = record {
    ok = λ j i x y p o. ok_more u (g.ok j i (omega arith) y p o);
    no = λ j i x y p o. not_more u (λ z q n. ends_above a j i (tail_most j (omega arith) y) y p z q n) (g.no j i (omega arith) y p o);
  }

lyndon-start : (w a x : List ℕ) → w ≡ a ++ x → Lyndon x → Above w (length a) → IsStart w (length a)
lyndon-start w a x g y h =
    let m : length w ≡ length a + length x = ap length g ∙ length-append a x in
    let n : length a < length w = omega (arith, y.some) in
    let f : drop (length a) w ≡ x ++ [] = ap (drop (length a)) g ∙ drop-append_seam a x ∙ sym (append-nil x) in
    record {
      within = n;
      lowest = λ j l. either (lt_or_ge j (length a)) (λ o. lt_le (h j o))
          (λ o. either (eq-or-lt_of_le o) (λ c. rw (← c) irrefl)
          (λ c. let d : length a + (j - length a) ≡ j = omega arith in lt_le (rw d at (inside w x [] (length a) (j - length a) f y (omega arith) (omega arith)))));
      first = λ j l o. either (lt_or_ge j (length a)) (λ c. absurd (o (length a) n (h j c))) (λ c. c);
    }

pub chain : (s b : List ℕ) {l n : ℕ} → Chain s b l n → (w a : List ℕ) → w ≡ a ++ take l s → Agrees s a b l → Above w (length a) → IsStart w (length a + n)
chain s b (new {l} i y) w a g c h = rw add-zero (lyndon-start w a (take l s) g y h)
chain s b (good {l} {e} {u} {v} {t} r o) w a g c h =
    rw add-zero (first_copy w a u v t e r.cut r.word r.some (g ∙ ap (λ x. a ++ x) r.whole) h (test_ok s l e u v t r a b c o))
chain s b (bad {l} {e} {k} {n} {u} {v} {t} r o q m d) w a g c h =
    let f : w ≡ a ++ (power (suc e) u ++ v) = g ∙ ap (λ x. a ++ x) r.whole in
    let x : w ≡ (a ++ u) ++ take k s = f ∙ rw (power_suc e u, q) (simp append_assoc) in
    let i = chain s b d w (a ++ u) x (agrees_next s l e u v t r a b k m c) (second_copy w a u v t e r.cut r.word r.some f h (test_no s l e u v t r a b c o)) in
    rw (length-append, add_assoc) at i
