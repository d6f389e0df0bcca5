-- Decimal numbers and lines of them, as bytes.
-- Assumes nothing.
use Rattle.std.specs.Prelude.{cond, List, [], ◌∷◌, ◌++◌, ℕ, zero, suc, ◌+◌, ◌*◌, ◌/◌, ◌%◌, ltb}

-- the byte of a digit
abbrev pub digit : ℕ → ℕ
digit d = 48 + d

-- a number's digits, the highest first, at most f of them
abbrev pub digits : ℕ → ℕ → List ℕ
digits zero x = []
digits (suc f) x = cond (ltb x 10) (digit x ∷ []) (digits f (x / 10) ++ (digit (x % 10) ∷ []))

-- a number in decimal; 64 bits hold no number of more than 20 digits
unfoldable pub decimal : ℕ → List ℕ
decimal x = digits 20 x

-- exactly k digits, zeros in front where the number has fewer
abbrev pub padded : ℕ → ℕ → List ℕ
padded zero x = []
padded (suc k) x = padded k (x / 10) ++ (digit (x % 10) ∷ [])

-- numbers with a space between, and a last byte behind them
abbrev pub row : ℕ → List ℕ → List ℕ
row end [] = []
row end (x ∷ []) = decimal x ++ (end ∷ [])
row end (x ∷ (y ∷ xs)) = decimal x ++ (32 ∷ row end (y ∷ xs))

-- room for a line of k numbers below 100,000: five digits or fewer each, and a byte behind them
abbrev pub row_room : ℕ → ℕ
row_room k = 6 * k
