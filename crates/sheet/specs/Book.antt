-- A book of sheets, walked from its end (01, "The catalogue sheet").
-- Assumes nothing.
use Rattle.std.specs.Prelude.{cond, List, [], ◌∷◌, ◌++◌, ℕ, zero, suc, eqb, length, take, drop}
use Rattle.sheet.specs.Found.{Found}
use Rattle.sheet.specs.Found.{Sheet, Refused}
use Rattle.sheet.specs.declared.answer.Walked.{Walked}
use Rattle.sheet.specs.Trailer.{found_of}

-- "A book is sheets one behind another, none between" (01)
abbrev pub joined : List (List ℕ) → List ℕ
joined [] = []
joined (s ∷ ss) = s ++ joined ss

-- what a walk comes to: the sheets from front to end, or the refusal that ended it
pub data Walk : Type 0 where
  through : List (List ℕ) → Walk
  stopped : ℕ → ℕ → Walk

-- one step: the sheet found, and the walk of what stands before it; "a refusal there ends the walk and refuses the book with that number" (01)
abbrev pub step_as : Found → (ℕ → Walk) → Walk
step_as (Sheet marked kind before) rest = rest before
step_as (Refused number place) rest = stopped number place

-- "The sheet nearest the end is read first" (01). ss stands behind the book; each step shortens the book, so as many steps as bytes are enough
abbrev pub walk_back : ℕ → List ℕ → List (List ℕ) → Walk
walk_back zero book ss = through ss
walk_back (suc f) book ss =
    cond (eqb (length book) 0) (through ss) (step_as (found_of book) (λ before. walk_back f (take before book) (drop before book ∷ ss)))

-- the walk of a whole book; "A book of 0 bytes holds 0 sheets" (01)
unfoldable pub walk_of : List ℕ → Walk
walk_of book = walk_back (length book) book []

-- "The walk answers the number of sheets" (01); a refused one answers none
abbrev pub walked_as : Walk → Walked
walked_as (through ss) = record { number = 0; place = 0; sheets = length ss }
walked_as (stopped number place) = record { number = number; place = place; sheets = 0 }

abbrev pub walked_of : List ℕ → Walked
walked_of book = walked_as (walk_of book)
