-- The test of a block's entries by match lengths: what stands behind a part of the block's word, against the letters before the block.
-- Assumes nothing.
use mathlib.Core.Path.{◌≡◌, sym, ap, ◌∙◌, subst}
use mathlib.Core.Logic.{◌⊎◌, inl, inr}
use mathlib.Core.List.{List, [], ◌++◌, append-nil}
use Prim.Native.Nat.{ℕ, ◌≤◌, ◌<◌, ◌+◌, ◌-◌}
use native.Mathlib.Omega.{arith}
use lib.ListN.{length, take, drop, get_or, length-append, length-drop, take-append-drop}
use lib.Seq.{ext_get_or, get_or-take, get_or-drop, length-take-le, take_all}
use Rattle.words.specs.Order.Order.{◌≪◌}
use Rattle.words.specs.Factors.Lyndon.{Lyndon}
use Rattle.words.specs.Repeats.Match.{MatchLength}
use Rattle.words.specs.Starts.Start.{AtMost, low, front, More, high, beyond}
use Rattle.words.proofs.Order.Search.{either, lt_or_ge}
use Rattle.words.proofs.Order.Order.{irrefl, trans, le_or, le_cases, prefix_le, prefix_before, decided, decided_or_prefix, decided_at}
use Rattle.words.proofs.Starts.Start.{ok_more, not_more, suffix_above}

-- ---- t is more than a or it is not, and never both

ok_or_not : (t a : List ℕ) → AtMost t a ⊎ More t a
ok_or_not t a =
    either (le_or t a) (λ h. inl (either (decided_or_prefix h) (λ d. low d) (λ p. front p.0 p.1)))
    (λ h. either (le_cases h) (λ e. inl (front [] (e ∙ sym (append-nil t)))) (λ l. inr (either (decided_or_prefix l) (λ d. high d) (λ p. beyond p.0 p.1 p.2))))

apart : {t a : List ℕ} → AtMost t a → More t a → ⊥
apart (low d) (high e) = irrefl (trans (decided d) (decided e))
apart {a = a} (low d) (beyond y e l) = irrefl (trans (decided (rw e at d)) (prefix_before a y l))
apart {t = t} (front y e) (high d) = prefix_le t y (decided (rw e at d))
apart {t = t} {a = a} (front y e) (beyond z f l) = omega (arith, ap length e, ap length f, length-append t y, length-append a z)

-- ---- a proper end x of the block's word is tested against the letters before the block as against the whole word

module _ (w : List ℕ) (m p k : ℕ) (y : Lyndon (take p (drop m w))) (h : 0 < k) where
  clear : (z : List ℕ) → drop k (take p (drop m w)) ≡ take m w ++ z → 0 < length z → drop m w ≪ z
  clear z e l =
      subst (λ v. v ≪ z) (take-append-drop p (drop m w)) (suffix_above (take p (drop m w)) (drop p (drop m w)) (take m w) z k y h e l)

  pub whole_ok : AtMost (drop k (take p (drop m w))) w → AtMost (drop k (take p (drop m w))) (take m w)
  whole_ok o =
      either (ok_or_not (drop k (take p (drop m w))) (take m w)) (λ q. q)
      (λ q. absurd (apart o (subst (More (drop k (take p (drop m w)))) (take-append-drop m w) (not_more (drop m w) clear q))))

  pub whole_not : More (drop k (take p (drop m w))) w → More (drop k (take p (drop m w))) (take m w)
  whole_not o =
      either (ok_or_not (drop k (take p (drop m w))) (take m w))
      (λ q. absurd (apart (subst (AtMost (drop k (take p (drop m w)))) (take-append-drop m w) (ok_more (drop m w) q)) o)) (λ q. q)

-- ---- letter by letter

module _ (x b : List ℕ) (z : ℕ) (m : z ≤ length x) (n : z ≤ length b) (a : (q : ℕ) → q < z → get_or x q 0 ≡ get_or b q 0) where
  agreed : take z x ≡ take z b
  agreed =
      let p : length (take z x) ≡ z = length-take-le z x m in
      ext_get_or 0 _ _ (p ∙ sym (length-take-le z b n)) (λ q l. let o : q < z = rw p at l in get_or-take z x q 0 o ∙ a q o ∙ sym (get_or-take z b q 0 o))

  ok_low : z < length x → z < length b → get_or x z 0 < get_or b z 0 → AtMost x b
  ok_low h l o = low (decided_at z x b agreed h l o)

  not_high : z < length x → z < length b → get_or b z 0 < get_or x z 0 → More x b
  not_high h l o = high (decided_at z b x (sym agreed) l h o)

  pub ok_front : length x ≤ z → AtMost x b
  ok_front h = front (drop z b) (sym (take-append-drop z b) ∙ ap (λ y. y ++ drop z b) (sym agreed ∙ take_all z x h))

-- the letters from i to e against the whole word, where z letters from i on match
module _ (w : List ℕ) (i e z : ℕ) (a : MatchLength w i z) (l : i ≤ e) (b : e ≤ length w) where
  here : (q : ℕ) → i + q < e → get_or (drop i (take e w)) q 0 ≡ get_or w (i + q) 0
  here q h = get_or-drop i (take e w) q 0 ∙ get_or-take e w (i + q) 0 h

  long : length (drop i (take e w)) ≡ e - i
  long = length-drop i (take e w) ∙ ap (λ n. n - i) (length-take-le e w b)

  pairs : (q : ℕ) → q < z → i + q < e → get_or (drop i (take e w)) q 0 ≡ get_or w q 0
  pairs q h c = here q c ∙ a.match.same q h

  pub match_whole : e ≤ i + z → AtMost (drop i (take e w)) w
  match_whole h = ok_front _ _ (e - i) (omega (arith, long)) (omega arith) (λ q c. pairs q (omega arith) (omega arith)) (omega (arith, long))

  module _ (h : i + z < e) where
    pub match_low : get_or w (i + z) 0 < get_or w z 0 → AtMost (drop i (take e w)) w
    match_low c = ok_low _ _ z (omega (arith, long)) (omega arith) (λ q d. pairs q d (omega arith)) (omega (arith, long)) (omega arith) (rw (here z h) c)

    pub match_high : get_or w z 0 ≤ get_or w (i + z) 0 → More (drop i (take e w)) w
    match_high c =
        let d : get_or w z 0 < get_or w (i + z) 0 = either (lt_or_ge (get_or w z 0) (get_or w (i + z) 0)) (λ q. q) (λ q. absurd (a.differs (omega arith) (omega arith))) in
        not_high _ _ z (omega (arith, long)) (omega arith) (λ q d. pairs q d (omega arith)) (omega (arith, long)) (omega arith) (rw (here z h) d)
