-- The chain of tests that finds, in a block, how far behind its head the start of a prefix is.
-- Assumes nothing.
use Rattle.std.specs.Prelude.{◌≡◌, List, ◌++◌, ℕ, suc, ◌≤◌, ◌<◌, ◌+◌, length, take}
use Rattle.words.specs.Order.Order.{◌≪◌}
use Rattle.words.specs.Factors.Lyndon.{Lyndon}
use Rattle.words.specs.Factors.Factor.{flat, copies}

-- u, j times over
unfoldable pub power : ℕ → List ℕ → List ℕ
power j u = flat (copies j u)

-- t is no more than a as far as it goes
pub data AtMost (t a : List ℕ) : Type 0 where
  low : t ≪ a → AtMost t a
  front : (y : List ℕ) → a ≡ t ++ y → AtMost t a

-- t is more
pub data More (t a : List ℕ) : Type 0 where
  high : a ≪ t → More t a
  beyond : (y : List ℕ) → t ≡ a ++ y → 0 < length y → More t a

-- the first l letters of s are a Lyndon word u, once or more, and then v, with u = v t
pub record Tail (s : List ℕ) (l : ℕ) (u v t : List ℕ) (e : ℕ) : Type 0 where
  pub inside : l ≤ length s
  pub word : Lyndon u
  pub front : take (length u) s ≡ u
  pub cut : u ≡ v ++ t
  pub some : 0 < length v
  pub whole : take l s ≡ power (suc e) u ++ v

-- how far behind the head the start is, by the tests against b
pub data Chain (s b : List ℕ) : ℕ → ℕ → Type 0 where
  new : {l : ℕ} → l ≤ length s → Lyndon (take l s) → Chain s b l 0
  good : {l e : ℕ} {u v t : List ℕ} → Tail s l u v t e → AtMost t b → Chain s b l 0
  bad : {l e k n : ℕ} {u v t : List ℕ} → Tail s l u v t e → More t b → take k s ≡ power e u ++ v → k ≤ l → Chain s b k n → Chain s b l (length u + n)
