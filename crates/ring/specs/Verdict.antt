-- What is said of a ring (01, "Numbers given when a call declines").
-- Assumes nothing.
use Rattle.std.specs.Prelude.{ℕ}

-- `Letter` holds the first position that has no letter of the kind, `NotKey` is said of letters judged as a key
pub data Verdict : Type 0 where
  Taken : Verdict
  Kind : Verdict
  Empty : Verdict
  Long : Verdict
  Letter : ℕ → Verdict
  Short : Verdict
  NotKey : Verdict
