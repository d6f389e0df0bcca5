-- A division into Lyndon words of which none is less than the one after it is the one that `factors` gives.
-- Assumes nothing.
use mathlib.Core.Path.{◌≡◌, refl, sym, ap, ◌∙◌}
use mathlib.Core.Bool.{true}
use mathlib.Core.List.{List, [], ◌∷◌, ◌++◌, append-nil, append_assoc}
use Prim.Native.Nat.{ℕ, zero, suc, ◌≤◌, ◌<◌, ◌+◌, ◌-◌, ◌*◌}
use native.Mathlib.Omega.{arith}
use native.Mathlib.Nat.{zero-mul, suc-mul}
use lib.ListN.{length, take, drop, length-append, length-take, length-drop, take-append-drop}
use lib.Seq.{length-take-le, take-add, take-append_seam, drop-append_seam, drop-append-add}
use Rattle.words.specs.Order.Order.{◌≺◌, ◌≼◌}
use Rattle.words.specs.Factors.Lyndon.{Lyndon, lyndon}
use Rattle.words.specs.Factors.Factor.{flat, Under, Falling, IsFactors, longest, divide, factors, copies, FirstRun}
use Rattle.words.proofs.Order.Order.{trans, irrefl, above_some, prefix_before, prefix_le, lt_of_lt_le, lt_of_le_lt, le_trans, lt_le}
use Rattle.words.proofs.Factors.Lyndon.{lyndon_is, lyndon_true, join}
use Rattle.words.proofs.Order.Search.{greatest_passes, greatest_is, by_test}

-- ---- the first factor is the longest Lyndon word that is a prefix

-- two ways to part one word: the first parts are prefix one of the other
pub data Parted (p r f s : List ℕ) : Type 0 where
  short : (x : List ℕ) → f ≡ p ++ x → Parted p r f s
  long : (x : List ℕ) → p ≡ f ++ x → x ++ r ≡ s → 0 < length x → Parted p r f s

pub parted : (p r f s : List ℕ) → p ++ r ≡ f ++ s → Parted p r f s
parted [] r f s e = short f refl
parted (a ∷ p) r [] s e = long (a ∷ p) refl e (omega arith)
parted (a ∷ p) r (b ∷ f) s e = go (parted p r f s (cc))
  where
    go : Parted p r f s → Parted (a ∷ p) r (b ∷ f) s
    go (short x q) = short x (cc)
    go (long x q t l) = long x (cc) t l

-- of words under b, the front ends in a part that is no greater than b
ends_low : (b : List ℕ) (fs : List (List ℕ)) → Under b fs → (p r : List ℕ) → p ++ r ≡ flat fs → 0 < length p → (i : ℕ) × (i < length p) × (drop i p ≼ b)
ends_low b [] u p r e h = absurd (omega (arith, simp length-append at (ap length e)))
ends_low b (f ∷ fs) u p r e h = go (parted p r f (flat fs) e) (ends_low f fs u.2)
  where
    go : Parted p r f (flat fs)
        → ((p r : List ℕ) → p ++ r ≡ flat fs → 0 < length p → (i : ℕ) × (i < length p) × (drop i p ≼ f))
        → (i : ℕ) × (i < length p) × (drop i p ≼ b)
    go (short x q) ih = (0, h, le_trans (rw q (prefix_le p x)) u.1)
    go (long x q t l) ih =
        let z = ih x r t l in
        (length f + z.0, rw (q, length-append) (omega arith), rw (q, drop-append-add) (le_trans z.2 u.1))

-- a Lyndon word that is a prefix is no longer than the first factor
pub first_longest : (f : List ℕ) (fs : List (List ℕ)) → Falling (f ∷ fs) → (p r : List ℕ) → p ++ r ≡ f ++ flat fs → Lyndon p → length p ≤ length f
first_longest f fs u p r e y = go (parted p r f (flat fs) e)
  where
    go : Parted p r f (flat fs) → length p ≤ length f
    go (short x q) = omega (arith, simp length-append at (ap length q))
    go (long x q t l) =
        let z = ends_low f fs u.1 x r t l in
        let d : drop (length f + z.0) p ≡ drop z.0 x = rw (q, drop-append-add) in
        absurd (irrefl (trans (lt_of_lt_le (rw d at (y.least (length f + z.0) (omega (arith, u.0.some)) (rw (q, length-append) (omega arith)))) z.2)
        (rw q (prefix_before f x l))))

pub longest_is : (f : List ℕ) (fs : List (List ℕ)) → Falling (f ∷ fs) → longest (f ++ flat fs) ≡ length f
unfolding longest
longest_is f fs u =
    greatest_is (λ k. lyndon (take k (f ++ flat fs))) (length (f ++ flat fs)) (length f) (rw length-append (omega arith))
    (rw take-append_seam (lyndon_true f u.0))
    (λ j h l. by_test (lyndon (take j (f ++ flat fs)))
    (λ t. absurd (omega (arith, first_longest f fs u (take j (f ++ flat fs)) (drop j (f ++ flat fs)) (take-append-drop j (f ++ flat fs)) (lyndon_is _ t), length-take j (f ++ flat fs))))
    (λ t. t))

-- ---- any such division is the one that `divide` makes

falling_of : (b : List ℕ) (fs : List (List ℕ)) → Under b fs → Falling fs
falling_of b [] u = tt
falling_of b (f ∷ fs) u = (u.0, u.2)

cut : (k n : ℕ) (f s : List ℕ) → n ≡ length f → ◌≡◌ {A = List (List ℕ)} (take n (f ++ s) ∷ divide k (drop n (f ++ s))) (f ∷ divide k s)
cut k n f s e = rw (e, take-append_seam, drop-append_seam)

divide_is : (fs : List (List ℕ)) (k : ℕ) → Falling fs → length (flat fs) ≤ k → divide k (flat fs) ≡ fs
divide_is [] zero u l = refl
divide_is [] (suc k) u l = refl
divide_is ([] ∷ fs) k u l = absurd (omega (arith, u.0.some))
divide_is ((a ∷ f) ∷ fs) zero u l = absurd (omega arith)
divide_is ((a ∷ f) ∷ fs) (suc k) u l =
    cut k _ (a ∷ f) (flat fs) (longest_is (a ∷ f) fs u)
    ∙ ap (λ r. (a ∷ f) ∷ r) (divide_is fs k (falling_of (a ∷ f) fs u.1) (omega (arith, simp length-append at l)))

pub factors_one : (w : List ℕ) (fs : List (List ℕ)) → IsFactors w fs → fs ≡ factors w
unfolding factors
factors_one w fs p = sym (rw (← p.whole) (divide_is fs (length (flat fs)) p.falling (omega arith)))

-- ---- what `divide` makes is such a division

longest_fits : (a : ℕ) (w : List ℕ)
    → (0 < longest (a ∷ w)) × (lyndon (take (longest (a ∷ w)) (a ∷ w)) ≡ true) × (longest (a ∷ w) ≤ length (a ∷ w))
unfolding longest
longest_fits a w = greatest_passes (λ k. lyndon (take k (a ∷ w))) (length (a ∷ w)) 1 (omega arith) (omega arith) refl

cut_whole : (n k : ℕ) (w : List ℕ) → flat (divide k (drop n w)) ≡ drop n w → take n w ++ flat (divide k (drop n w)) ≡ w
cut_whole n k w e = rw e (take-append-drop n w)

rest_fits : (n k : ℕ) (w : List ℕ) → 0 < n → length w ≤ suc k → length (drop n w) ≤ k
rest_fits n k w p h = rw length-drop (omega arith)

divide_whole : (k : ℕ) (w : List ℕ) → length w ≤ k → flat (divide k w) ≡ w
divide_whole zero [] h = refl
divide_whole zero (a ∷ w) h = absurd (omega arith)
divide_whole (suc k) [] h = refl
divide_whole (suc k) (a ∷ w) h =
    cut_whole (longest (a ∷ w)) k (a ∷ w) (divide_whole k (drop (longest (a ∷ w)) (a ∷ w)) (rest_fits (longest (a ∷ w)) k (a ∷ w) (longest_fits a w).0 h))

-- f is no less than any Lyndon word that begins the rest: else f and that word would join to a longer one
cut_under : (n : ℕ) (w : List ℕ) → n ≤ length w → lyndon (take n w) ≡ true → ((k : ℕ) → k ≤ length w → lyndon (take k w) ≡ true → k ≤ n)
    → (g r : List ℕ) → g ++ r ≡ drop n w → Lyndon g → g ≼ take n w
cut_under n w l t m g r e y h =
    let q : take (n + length g) w ≡ take n w ++ g = rw (take-add, ← e, take-append_seam) in
    let d : length g + length r ≡ length w - n = rw (← length-append, ← length-drop) (ap length e) in
    omega (arith, y.some, m (n + length g) (omega arith) (rw q (lyndon_true _ (join (take n w) g (lyndon_is _ t) y h))))

longest-most : (a : ℕ) (w : List ℕ) (k : ℕ) → k ≤ length (a ∷ w) → lyndon (take k (a ∷ w)) ≡ true → k ≤ longest (a ∷ w)
unfolding longest
longest-most a w zero h t = omega arith
longest-most a w (suc k) h t = (greatest_passes (λ k. lyndon (take k (a ∷ w))) (length (a ∷ w)) (suc k) (omega arith) h t).0

pub longest_within : (w : List ℕ) → longest w ≤ length w
unfolding longest
longest_within [] = omega arith
longest_within (a ∷ w) = (longest_fits a w).2

pub longest-least : (w : List ℕ) (k : ℕ) → k ≤ length w → Lyndon (take k w) → k ≤ longest w
longest-least [] k h y = omega arith
longest-least (a ∷ w) k h y = longest-most a w k h (lyndon_true _ y)

pub divide_under : (k : ℕ) (b w : List ℕ) → length w ≤ k → ((g r : List ℕ) → g ++ r ≡ w → Lyndon g → g ≼ b) → Under b (divide k w)
divide_under zero b w h m = tt
divide_under (suc k) b [] h m = tt
divide_under (suc k) b (a ∷ w) h m =
    let n : ℕ = longest (a ∷ w) in
    let y : Lyndon (take n (a ∷ w)) = lyndon_is _ (longest_fits a w).1 in
    (y, m (take n (a ∷ w)) (drop n (a ∷ w)) (take-append-drop n (a ∷ w)) y, divide_under k (take n (a ∷ w)) (drop n (a ∷ w)) (rest_fits n k (a ∷ w) (longest_fits a w).0 h) (cut_under n (a ∷ w) (longest_fits a w).2 (longest_fits a w).1 (longest-most a w)))

-- no factor is greater than the whole
pub factors_below : (w : List ℕ) → Under w (factors w)
unfolding factors
factors_below w = divide_under (length w) w w (omega arith) (λ g r e y. rw (← e) (prefix_le g r))

pub factors_are : (w : List ℕ) → IsFactors w (factors w)
unfolding factors
factors_are w = record {
  whole = divide_whole (length w) w (omega arith);
  falling = falling_of w (factors w) (factors_below w);
}

-- ---- the first factor, and then the factors of the rest

divide_enough : (k : ℕ) (w : List ℕ) → length w ≤ k → divide k w ≡ factors w
divide_enough k w h =
    let e : flat (factors w) ≡ w = (factors_are w).whole in
    ap (divide k) (sym e) ∙ divide_is (factors w) k (factors_are w).falling (omega (arith, ap length e))

-- "The rest of the letters, from where that factor ends, is factored next" (01)
pub factors_first : (w : List ℕ) → 0 < length w → factors w ≡ take (longest w) w ∷ factors (drop (longest w) w)
unfolding factors
factors_first [] h = absurd (omega arith)
factors_first (a ∷ w) h =
    ap (λ fs. take (longest (a ∷ w)) (a ∷ w) ∷ fs)
    (divide_enough (length w) (drop (longest (a ∷ w)) (a ∷ w)) (rest_fits (longest (a ∷ w)) (length w) (a ∷ w) (longest_fits a w).0 (omega arith)))

-- ---- a run of equal factors

pub length-copies : (e : ℕ) (u : List ℕ) → length (flat (copies e u)) ≡ e * length u
length-copies zero u = rw zero-mul
length-copies (suc e) u = rw (length-append, length-copies e u, suc-mul) (omega arith)

-- one more copy, behind or before
pub copies_behind : (e : ℕ) (u : List ℕ) → flat (copies e u) ++ u ≡ u ++ flat (copies e u)
copies_behind zero u = sym (append-nil u)
copies_behind (suc e) u = append_assoc u (flat (copies e u)) u ∙ ap (λ x. u ++ x) (copies_behind e u)

pub flat_append : (fs gs : List (List ℕ)) → flat (fs ++ gs) ≡ flat fs ++ flat gs
flat_append [] gs = refl
flat_append (f ∷ fs) gs = rw (flat_append fs gs, append_assoc)

under_copies : (e : ℕ) (u : List ℕ) (fs : List (List ℕ)) → Lyndon u → Under u fs → Under u (copies e u ++ fs)
under_copies zero u fs y h = h
under_copies (suc e) u fs y h = (y, irrefl, under_copies e u fs y h)

-- what is less than u has only factors that are no greater than u
factors_under : (u y : List ℕ) → y ≺ u → Under u (factors y)
unfolding factors
factors_under u y h = divide_under (length y) u y (omega arith) (λ g r e x. lt_le (lt_of_le_lt (rw (← e) (prefix_le g r)) h))

-- copies of a Lyndon word, and then something less: these copies are the first factors
pub run_is : (e : ℕ) (u y : List ℕ) → Lyndon u → y ≺ u → IsFactors (flat (copies (suc e) u) ++ y) (copies (suc e) u ++ factors y)
run_is e u y l h = record {
  whole = flat_append (copies (suc e) u) (factors y) ∙ ap (λ x. flat (copies (suc e) u) ++ x) (factors_are y).whole;
  falling = (l, under_copies e u (factors y) l (factors_under u y h));
}

pub run_factors : (e : ℕ) (u y s : List ℕ) → Lyndon u → y ≺ u → s ≡ flat (copies (suc e) u) ++ y → factors s ≡ copies (suc e) u ++ factors y
run_factors e u y s l h q = sym (factors_one s _ (rw q (run_is e u y l h)))

pub run_longest : (e : ℕ) (u y s : List ℕ) → Lyndon u → y ≺ u → s ≡ flat (copies (suc e) u) ++ y → longest s ≡ length u
run_longest e u y s l h q = rw (q, ← (run_is e u y l h).whole) (longest_is u (copies e u ++ factors y) (run_is e u y l h).falling)

-- what a first run says of the letters
pub run_split : (s : List ℕ) (p e : ℕ) → (r : FirstRun s p e) → s ≡ flat (copies r.count (take p s)) ++ drop e s
run_split s p e r =
    sym (factors_are s).whole ∙ ap flat r.run ∙ flat_append (copies r.count (take p s)) (factors (drop e s)) ∙ ap (λ x. flat (copies r.count (take p s)) ++ x) (factors_are (drop e s)).whole

pub run_within : (s : List ℕ) (p e : ℕ) → FirstRun s p e → e ≤ length s
run_within s p e r = let c : List ℕ = flat (copies r.count (take p s)) in omega (arith, r.ends, length-append c (drop e s), ap length (run_split s p e r))

pub run_size : (s : List ℕ) (p e : ℕ) → FirstRun s p e → length (take p s) ≡ p
run_size s p e r = length-take-le p s (omega (arith, r.within, run_within s p e r))

pub run_word : (s : List ℕ) (p e : ℕ) → FirstRun s p e → Lyndon (take p s)
run_word [] p e r = absurd (omega (arith, above_some r.less, length-take {A = ℕ} p []))
run_word (a ∷ s) p e r = rw r.first (lyndon_is _ (longest_fits a s).1)
