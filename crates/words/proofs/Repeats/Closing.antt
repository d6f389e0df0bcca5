-- The repeat from the run of equal factors that begins at the start: it is that factor's length where the run alone, or the run with its
-- factor once more, goes round the whole ring; else n.
-- Assumes nothing.
use mathlib.Core.Path.{◌≡◌, sym, ap, ◌∙◌}
use mathlib.Core.Logic.{◌⊎◌, inl, inr}
use mathlib.Core.List.{List, ◌++◌, append_assoc}
use Prim.Native.Nat.{ℕ, suc, ◌≤◌, ◌<◌, ◌+◌, ◌-◌, ◌*◌, ◌%◌}
use native.Mathlib.Omega.{arith}
use native.Mathlib.Nat.{eq-or-lt_of_le, mod-eq_of_lt, mod-eq-sub-mod, add_assoc}
use lib.ListN.{length, take, drop, get_or, length-append, length-take, length-drop, take-append-drop}
use lib.Seq.{ext_get_or, get_or-take, get_or-drop, get_or-append-add, length-take-le, take-append-le}
use Rattle.words.specs.Rings.Ring.{reading, around, start, lowest}
use Rattle.words.specs.Factors.Lyndon.{Lyndon}
use Rattle.words.specs.Factors.Factor.{flat, copies, FirstRun}
use Rattle.words.specs.Repeats.Repeat.{repeat}
use Rattle.words.proofs.Order.Search.{either, lt_or_ge}
use Rattle.words.proofs.Order.Order.{irrefl, prefix_le}
use Rattle.words.proofs.Rings.Ring.{start_is}
use Rattle.words.proofs.Rings.Turn.{length-reading, reading_at, around_in}
use Rattle.words.proofs.Factors.Factor.{longest-least, run_split, run_within, run_word, run_size, length-copies, copies_behind}
use Rattle.words.proofs.Factors.Route.{inside}
use Rattle.words.proofs.Repeats.Necklace.{copies-repeat, run_repeat}
use Rattle.words.proofs.Repeats.Repeat.{Period, period_reading, period_times, period_rest, repeat_is, repeat_period, repeat_multiple, repeat_divides, start_below}
use Rattle.words.proofs.Repeats.Turned.{repeat-reading}
use Rattle.words.proofs.Repeats.Word.{lowest_word}

-- a multiple of g above g is 2g or more
twice : (n g : ℕ) → n % g ≡ 0 → g < n → g + g ≤ n
twice n g e l =
    either (lt_or_ge n (g + g))
    (λ m. let b : g ≤ n = omega arith in
    let x : n % g ≡ n - g = mod-eq-sub-mod b ∙ mod-eq_of_lt (omega arith) in
    absurd (omega arith))
    (λ m. m)

module _ (w : List ℕ) (h : 0 < length w) (p e : ℕ) (r : FirstRun (drop (start w) w) p e) where
  abbrev s : ℕ
  s = start w

  abbrev u : List ℕ
  u = take p (drop s w)

  -- round the ring, the p letters behind the run are the factor's
  abbrev Again : Type 0
  Again = (j : ℕ) → j < p → around w (s + e + j) ≡ around w (s + j)

  here : s < length w
  here = (start_is w h).within

  size : length u ≡ p
  size = run_size _ p e r

  word : Lyndon u
  word = run_word _ p e r

  fits : s + e ≤ length w
  fits = omega (arith, here, run_within _ p e r, length-drop s w)

  -- letter j of the factor, round the ring
  letter : (j : ℕ) → j < p → get_or u j 0 ≡ around w (s + j)
  letter j l = get_or-take p (drop s w) j 0 l ∙ get_or-drop s w j 0 ∙ sym (around_in w (s + j) (omega (arith, fits, r.within)))

  -- ---- the run is the whole ring

  pub closed_whole : e ≡ length w → repeat w ≡ p
  closed_whole q = let z : start w ≡ 0 = omega (arith, fits) in run_repeat w p e (rw z at r) h q

  -- ---- the run, and then its word once more

  module _ (q : e + p ≡ length w) (c : Again) where
    abbrev rest : List ℕ
    rest = drop e (drop s w) ++ take s w

    abbrev run : List ℕ
    run = flat (copies r.count u)

    parts : reading w s ≡ run ++ rest
    unfolding reading
    parts = ap (λ x. x ++ take s w) (run_split _ p e r) ∙ append_assoc run (drop e (drop s w)) (take s w)

    size_rest : length rest ≡ p
    size_rest = rw (length-append, length-drop, length-drop, length-take) (omega (arith, fits, here))

    rest_word : rest ≡ u
    rest_word =
        ext_get_or 0 rest u (size_rest ∙ sym size)
        (λ j l. let m : j < p = rw size_rest at l in
        let a : get_or (reading w s) (e + j) 0 ≡ get_or rest j 0 = ap (λ x. get_or x (e + j) 0) parts ∙ rw r.ends at (get_or-append-add run rest j 0) in
        sym a ∙ reading_at w s (e + j) (omega (arith, here)) (omega arith) ∙ ap (around w) (sym (add_assoc s e j)) ∙ c j m ∙ sym (letter j m))

    pub closed_once : repeat w ≡ p
    closed_once =
        let x : reading w s ≡ flat (copies (suc r.count) u) = parts ∙ ap (λ y. run ++ y) rest_word ∙ copies_behind r.count u in
        sym (repeat-reading w s (omega (arith, here)) h) ∙ copies-repeat (suc r.count) (reading w s) u word x (rw (length-reading w s (omega (arith, here))) h) ∙ size

  -- ---- a repeat below n: the run, or the run and its word once more, is the whole ring

  module _ (l : repeat w < length w) where
    below : s < repeat w
    below = start_below w h

    room : s + repeat w ≤ length w
    room = omega (arith, below, twice (length w) (repeat w) (repeat_divides w h) l)

    first_word : take (repeat w) (lowest w) ≡ take (repeat w) (drop s w)
    unfolding lowest reading
    first_word = take-append-le (repeat w) (drop s w) (take s w) (rw length-drop (omega (arith, room)))

    at_least : repeat w ≤ p
    at_least = rw (← r.first) at (longest-least (drop s w) (repeat w) (rw length-drop (omega (arith, room))) (rw first_word at (lowest_word w h).lyndon))

    -- a turn by fewer letters than the factor has gives a greater reading
    at_most : p ≤ repeat w
    at_most =
        either (lt_or_ge (repeat w) p)
        (λ m. let t : reading w (s + repeat w) ≡ reading w s = period_reading w s (repeat w) (repeat_period w h) room in
        absurd (irrefl (rw t at (inside w u (drop p (drop s w)) s (repeat w) (sym (take-append-drop p (drop s w))) word (repeat_is w h).turns.some (rw size m)))))
        (λ m. m)

    same : p ≡ repeat w
    same = omega (arith, at_least, at_most)

    times : e ≡ r.count * repeat w
    times = sym r.ends ∙ length-copies r.count u ∙ ap (λ k. r.count * k) (size ∙ same)

    on : Period w e
    on = rw times (period_times w (repeat w) r.count (repeat_period w h))

    again : Again
    again j m = let a : s + e + j ≡ s + j + e = omega arith in rw a (on (s + j))

    -- the word does not stand behind the run
    not_behind : s + e + p ≤ length w → ⊥
    not_behind m =
        let d : List ℕ = drop e (drop s w) in
        let n : length (take p d) ≡ p = length-take-le p d (rw (length-drop, length-drop) (omega (arith, fits))) in
        let x : take p d ≡ u =
        ext_get_or 0 (take p d) u (n ∙ sym size) (λ j k. let i : j < p = rw n at k in
        let b : s + (e + j) < length w = omega arith in
        get_or-take p d j 0 i ∙ get_or-drop e (drop s w) j 0 ∙ get_or-drop s w (e + j) 0 ∙ sym (around_in w (s + (e + j)) b) ∙ ap (around w) (sym (add_assoc s e j)) ∙ again j i ∙ sym (letter j i)) in
        prefix_le u (drop p d) (rw (← x, take-append-drop p d) (rw (← x) at r.less))

    left : (length w - e) % repeat w ≡ 0
    left = repeat_multiple w h (length w - e) (period_rest w e (omega (arith, fits)) on)

    closes : (e ≡ length w) ⊎ ((e + p ≡ length w) × Again)
    closes =
        either (lt_or_ge (length w - e) p)
        (λ m. let x : (length w - e) % repeat w ≡ length w - e = mod-eq_of_lt (omega (arith, same)) in inl (omega (arith, left, fits)))
        (λ m. either (eq-or-lt_of_le m) (λ q. inr (omega (arith, fits), again))
        (λ q. absurd (not_behind (omega (arith, below, same, twice (length w - e) (repeat w) left (omega (arith, same)))))))

  pub closed_none : (e ≡ length w → ⊥) → (e + p ≡ length w → Again → ⊥) → repeat w ≡ length w
  closed_none f g =
      either (eq-or-lt_of_le (repeat_is w h).turns.within) (λ x. x)
      (λ l. absurd (either (closes l) f (λ c. g c.0 c.1)))
