-- Letters by their bytes: those of a base ring, and those for bases that are not certain (01, "Letters, rings, readings"; 02, request 3).
-- Assumes nothing.
use Rattle.std.specs.Prelude.{Bool, true, false, cond, List, [], ◌∷◌, ℕ, eqb}

abbrev pub A : ℕ
A = 65

abbrev pub B : ℕ
B = 66

abbrev pub C : ℕ
C = 67

abbrev pub D : ℕ
D = 68

abbrev pub G : ℕ
G = 71

abbrev pub H : ℕ
H = 72

abbrev pub K : ℕ
K = 75

abbrev pub M : ℕ
M = 77

abbrev pub N : ℕ
N = 78

abbrev pub R : ℕ
R = 82

abbrev pub S : ℕ
S = 83

abbrev pub T : ℕ
T = 84

-- V is a word of the language, so it stands in marks
abbrev pub «V» : ℕ
«V» = 86

abbrev pub W : ℕ
W = 87

abbrev pub Y : ℕ
Y = 89

-- "the letters are the bytes A, C, G, T" (01)
abbrev pub is_base : ℕ → Bool
is_base a = cond (eqb a A) true (cond (eqb a C) true (cond (eqb a G) true (eqb a T)))

-- "the fifteen letters A C G T R Y S W K M B D H V N" (02)
abbrev pub fifteen : List ℕ
fifteen = A ∷ C ∷ G ∷ T ∷ R ∷ Y ∷ S ∷ W ∷ K ∷ M ∷ B ∷ D ∷ H ∷ «V» ∷ N ∷ []

-- a byte is one of these
abbrev pub among : List ℕ → ℕ → Bool
among [] a = false
among (b ∷ bs) a = cond (eqb a b) true (among bs a)

unfoldable pub is_iupac : ℕ → Bool
is_iupac a = among fifteen a
