-- The letter opposite, by a table of every byte (01, "Letters, rings, readings"; 02, request 3).
-- Assumes nothing.
use Rattle.std.specs.Prelude.{cond, List, [], ◌∷◌, ℕ, eqb, get_or}
use Rattle.words.specs.Order.Search.{tabled}
use Rattle.words.specs.Keys.Letter.{A, B, C, D, G, H, K, M, N, R, S, T, «V», W, Y}

-- how many values a byte has
abbrev pub bytes : ℕ
bytes = 256

-- "A and T exchanged, C and G exchanged" (01); "A-T, C-G, R-Y, K-M, B-V, D-H, and S, W, N with themselves" (02)
abbrev pub opposites : List (ℕ × ℕ)
opposites = (A, T) ∷ (C, G) ∷ (R, Y) ∷ (K, M) ∷ (B, «V») ∷ (D, H) ∷ (S, S) ∷ (W, W) ∷ (N, N) ∷ []

-- the other byte of the first pair that has this one, or this one where no pair has it
abbrev pub other_of : List (ℕ × ℕ) → ℕ → ℕ
other_of [] a = a
other_of (p ∷ ps) a = cond (eqb a p.0) p.1 (cond (eqb a p.1) p.0 (other_of ps a))

-- "a table of 256 entries, where every byte that isn't a letter maps to itself" (02)
unfoldable pub facing_table : List ℕ
facing_table = tabled (other_of opposites) bytes

-- "The opposite of a byte is looked up" in it (02); a number that is no byte is its own
unfoldable pub facing : ℕ → ℕ
facing a = get_or facing_table a a
