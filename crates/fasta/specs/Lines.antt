-- The lines of a text, what sort of line each is, and the letters kept of it (02, request 1).
-- Assumes nothing.
use Rattle.std.specs.Prelude.{Bool, true, false, cond, not, ◌&&◌, ◌||◌, List, [], ◌∷◌, ◌++◌, ℕ, ◌-◌, leb, eqb, drop}

-- ---- bytes

-- "a line that begins with `>`" (02)
abbrev pub mark : ℕ
mark = 62

-- "line ends are LF or CR LF" (02)
abbrev pub lf : ℕ
lf = 10

abbrev pub cr : ℕ
cr = 13

-- "spaces and tabs" (02)
abbrev pub space : ℕ
space = 32

abbrev pub tab : ℕ
tab = 9

unfoldable pub is_blank : ℕ → Bool
is_blank b = eqb b space || eqb b tab

-- "a to z become A to Z" (02): a small letter stands 32 behind its capital
unfoldable pub upper : ℕ → ℕ
upper b = cond (leb 97 b && leb b 122) (b - 32) b

-- the first of some bytes is the byte a
abbrev pub begins : ℕ → List ℕ → Bool
begins a [] = false
begins a (b ∷ t) = eqb b a

-- ---- a text as lines

-- a line: its bytes, and the bytes of its end, none for a last line that has no end
pub record Line : Type 0 where
  pub body : List ℕ
  pub ending : List ℕ

abbrev pub line : List ℕ → List ℕ → Line
line b e = record { body = b; ending = e }

-- a byte more at the front of the first line
abbrev pub onto : ℕ → List Line → List Line
onto b [] = line (b ∷ []) [] ∷ []
onto b (l ∷ ls) = line (b ∷ l.body) l.ending ∷ ls

-- "line ends are LF or CR LF" (02): a CR with an LF behind it is one end with that LF, so the empty line that the LF alone would end is
-- left out; any other CR is a byte of its line
abbrev pub lines_of : List ℕ → List Line
lines_of [] = []
lines_of (b ∷ t) =
    cond (eqb b lf) (line [] (lf ∷ []) ∷ lines_of t)
    (cond (eqb b cr && begins lf t) (line [] (cr ∷ lf ∷ []) ∷ drop 1 (lines_of t))
    (onto b (lines_of t)))

-- the text of lines
abbrev pub joined : List Line → List ℕ
joined [] = []
joined (l ∷ ls) = (l.body ++ l.ending) ++ joined ls

-- the bytes of the first line, none where there is no line
abbrev pub first_body : List Line → List ℕ
first_body [] = []
first_body (l ∷ ls) = l.body

-- ---- sorts of lines

-- "a line that begins with `>` is a header" (02)
abbrev pub is_header : Line → Bool
is_header l = begins mark l.body

abbrev pub all_blank : List ℕ → Bool
all_blank [] = true
all_blank (b ∷ t) = is_blank b && all_blank t

-- "Empty lines, and lines of spaces and tabs alone" (02)
abbrev pub is_empty : Line → Bool
is_empty l = all_blank l.body

-- any other is a letter line
abbrev pub is_letters : Line → Bool
is_letters l = not (is_header l) && not (is_empty l)

-- ---- the letters kept

-- "a to z become A to Z; spaces and tabs within letter lines are dropped" (02)
abbrev pub kept_of : List ℕ → List ℕ
kept_of [] = []
kept_of (b ∷ t) = cond (is_blank b) (kept_of t) (upper b ∷ kept_of t)

-- of lines one behind another; an empty line has none, so it is "passed over" (02)
abbrev pub letters : List Line → List ℕ
letters [] = []
letters (l ∷ ls) = kept_of l.body ++ letters ls
