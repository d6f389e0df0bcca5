-- What `Lines` and `Parts` say, once more byte by byte, as a scan reads a text from within a line on.
-- Assumes nothing.
use Rattle.std.specs.Prelude.{◌≡◌, Bool, cond, not, ◌&&◌, ◌||◌, List, [], ◌∷◌, ℕ, ◌≤◌, ◌<◌, eqb, ltb, length, take, drop, Option, Some, None}
use Rattle.ring.specs.Judging.{first_bad}
use Rattle.fasta.specs.Lines.{mark, lf, cr, begins, is_blank, upper}
use Rattle.fasta.specs.Answers.{base_kind}
use Rattle.fasta.specs.Bases.{bases_in}

-- a line end begins at b, with t behind it
unfoldable pub ends : ℕ → List ℕ → Bool
ends b t = eqb b lf || eqb b cr && begins lf t

-- b is kept as a letter, with t behind it
unfoldable pub keeps : ℕ → List ℕ → Bool
keeps b t = not (is_blank b) && not (ends b t)

-- b ends a line, and a header is next
unfoldable pub turns : ℕ → List ℕ → Bool
turns b t = eqb b lf && begins mark t

-- the text from the first header on: from within a line that has no letter yet, and from the front of a text
abbrev pub header_in : List ℕ → List ℕ
header_in [] = []
header_in (b ∷ t) = cond (keeps b t) [] (cond (turns b t) t (header_in t))

unfoldable pub header_from : List ℕ → List ℕ
header_from t = cond (begins mark t) t (header_in t)

-- the text from the line's end on
abbrev pub end_in : List ℕ → List ℕ
end_in [] = []
end_in (b ∷ t) = cond (ends b t) (b ∷ t) (end_in t)

-- the letters to the next header, and the text from it on
abbrev pub letters_in : List ℕ → List ℕ
letters_in [] = []
letters_in (b ∷ t) = cond (keeps b t) (upper b ∷ letters_in t) (cond (turns b t) [] (letters_in t))

abbrev pub rest_in : List ℕ → List ℕ
rest_in [] = []
rest_in (b ∷ t) = cond (turns b t) t (rest_in t)

-- the text from r on is s
pub record Stands (text s : List ℕ) (r : ℕ) : Type 0 where
  pub within : r ≤ length text
  pub is : drop r text ≡ s

-- the first header line stands from m to e, its mark at m
pub record HeaderLine (text : List ℕ) (m e : ℕ) : Type 0 where
  pub found : Stands text (header_from text) m
  pub some : m < length text
  pub end : Stands text (end_in (drop m text)) e

-- the first letter that is no base, none where all are bases
unfoldable pub first_other : List ℕ → Option ℕ
first_other w = cond (ltb (first_bad base_kind w) (length w)) (Some (first_bad base_kind w)) None

-- what a scan counts of the lines from a header's end on: the letters, the first that is no base, and where the next header stands; where
-- all are bases, they are the bases of the bytes before that
pub record Counts (lines : List ℕ) (n : ℕ) (other : Option ℕ) (rest : ℕ) : Type 0 where
  pub size : n ≡ length (letters_in lines)
  pub few : n ≤ length lines
  pub first : other ≡ first_other (letters_in lines)
  pub remains : Stands lines (rest_in lines) rest
  pub bases : other ≡ None → bases_in (take rest lines) ≡ letters_in lines

-- the bases of the bytes before i are those of the bytes before e: the last of them ends there or before
pub record BasesEnd (lines : List ℕ) (i e : ℕ) : Type 0 where
  pub within : e ≤ i
  pub same : bases_in (take e lines) ≡ bases_in (take i lines)
