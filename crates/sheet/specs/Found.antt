-- What stands at the end of lent bytes.
-- Assumes nothing.
use Rattle.std.specs.Prelude.{ℕ}
use Rattle.ring.specs.declared.answer.Marked.{Marked}

-- a sheet with its marks, its kind and how many bytes stand before it; or the number of its refusal, with its place
pub data Found : Type 0 where
  Sheet : Marked → ℕ → ℕ → Found
  Refused : ℕ → ℕ → Found
