-- The repeat of a ring (02, request 2, in place of 01's).
-- Assumes nothing.
use Rattle.std.specs.Prelude.{◌≡◌, Bool, List, ℕ, ◌≤◌, ◌<◌, ◌+◌, ◌*◌, ◌/◌, eqb, length, take, get_or}
use Rattle.words.specs.Order.Search.{every, seek}
use Rattle.words.specs.Rings.Ring.{reading}
use Rattle.words.specs.Factors.Lyndon.{Lyndon}
use Rattle.words.specs.Factors.Factor.{flat, copies}

-- p is from 1 to n, and turning the ring by p gives the same letters at every position (02, request 2)
pub record Turns (w : List ℕ) (p : ℕ) : Type 0 where
  pub some : 0 < p
  pub within : p ≤ length w
  pub same : reading w p ≡ w

-- the same as a test
abbrev pub same_turned : List ℕ → ℕ → Bool
same_turned w p = every (λ i. eqb (get_or (reading w p) i 0) (get_or w i 0)) (length w)

-- the repeat is the smallest such p (02, request 2)
pub record IsRepeat (w : List ℕ) (p : ℕ) : Type 0 where
  pub turns : Turns w p
  pub smallest : (q : ℕ) → Turns w q → p ≤ q

-- the repeat, computed: the first p from 1 on that passes
unfoldable pub repeat : List ℕ → ℕ
repeat w = seek (same_turned w) (length w) 1

-- the first p letters of w are a Lyndon word, and w is that word n / p times over
pub record WordTimes (w : List ℕ) (p : ℕ) : Type 0 where
  pub within : p ≤ length w
  pub lyndon : Lyndon (take p w)
  pub whole : flat (copies (length w / p) (take p w)) ≡ w

-- i is one of at, at + step, at + 2 step, .. below n
pub record Along (n at step i : ℕ) : Type 0 where
  pub within : i < n
  pub times : ℕ
  pub is : i ≡ at + times * step
