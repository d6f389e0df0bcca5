-- 01's worked examples and edges of sheets, by computation.
-- Assumes nothing.
use mathlib.Core.Path.{◌≡◌, refl}
use mathlib.Core.List.{List, [], ◌∷◌, ◌++◌}
use Prim.Native.Nat.{ℕ}
use Rattle.words.specs.Keys.Kind.{stranded}
use Rattle.words.specs.Keys.Facing.{facing_table, facing}
use Rattle.words.specs.Rings.Ring.{reading, start, lowest}
use Rattle.words.specs.Keys.Strand.{opposite, strand, key_start, key}
use Rattle.ring.specs.Judging.{verdict}
use Rattle.ring.specs.Answers.{done_with, deposit, is_key}
use Rattle.sheet.specs.Found.{Sheet, Refused}
use Rattle.sheet.specs.Sheet.{sheet_of, deposit_of}
use Rattle.sheet.specs.Trailer.{contents_in, wrong_marks, found_of}
use Rattle.sheet.specs.Book.{walk_of, walked_of, through}

abbrev A : ℕ
A = 65

abbrev C : ℕ
C = 67

abbrev G : ℕ
G = 71

abbrev N : ℕ
N = 78

abbrev T : ℕ
T = 84

-- "GATTACA, kind 1, gives AATCTGT and then 07 00 03 00 01 01 52 47" (01)
abbrev gattaca : List ℕ
gattaca = G ∷ A ∷ T ∷ T ∷ A ∷ C ∷ A ∷ []

abbrev gattaca_sheet : List ℕ
gattaca_sheet = A ∷ A ∷ T ∷ C ∷ T ∷ G ∷ T ∷ 0x07 ∷ 0x00 ∷ 0x03 ∷ 0x00 ∷ 0x01 ∷ 0x01 ∷ 0x52 ∷ 0x47 ∷ []

pub gattaca_written : sheet_of 1 gattaca ≡ gattaca_sheet
unfolding sheet_of key key_start strand stranded lowest start reading facing_table facing opposite
gattaca_written = refl

pub gattaca_found : found_of (N ∷ N ∷ gattaca_sheet) ≡ Sheet (done_with 7 3 1) 1 2
unfolding found_of wrong_marks stranded is_key deposit verdict key key_start strand lowest start reading facing_table facing opposite
gattaca_found = refl

pub gattaca_back : deposit_of (contents_in (N ∷ N ∷ gattaca_sheet)) ≡ gattaca
unfolding deposit reading facing_table facing opposite
gattaca_back = refl

-- a sheet of four letters, start s, a strand and a kind
abbrev four : List ℕ → ℕ → ℕ → ℕ → List ℕ
four w s strand kind = w ++ 4 ∷ 0 ∷ s ∷ 0 ∷ strand ∷ kind ∷ 0x52 ∷ 0x47 ∷ []

abbrev acac : List ℕ
acac = A ∷ C ∷ A ∷ C ∷ []

-- "For ACAC a sheet with start 1 is taken (its deposit is CACA); with start 2 it gives 7" (01)
pub acac_one : found_of (four acac 1 0 1) ≡ Sheet (done_with 4 1 0) 1 0
unfolding found_of wrong_marks stranded is_key deposit verdict key key_start strand lowest start reading facing_table facing opposite
acac_one = refl

pub acac_one_back : deposit_of (contents_in (four acac 1 0 1)) ≡ C ∷ A ∷ C ∷ A ∷ []
unfolding deposit reading facing_table facing opposite
acac_one_back = refl

pub acac_two : found_of (four acac 2 0 1) ≡ Refused 7 0
unfolding found_of wrong_marks stranded is_key deposit verdict key key_start strand lowest start reading facing_table facing opposite
acac_two = refl

-- "ACGT with strand 1 gives 7" (01)
pub acgt_other : found_of (four (A ∷ C ∷ G ∷ T ∷ []) 0 1 1) ≡ Refused 7 0
unfolding found_of wrong_marks stranded is_key deposit verdict key key_start strand lowest start reading facing_table facing opposite
acgt_other = refl

-- kind 0 with strand 1 gives 6, and a letter that is none gives 3 with its place from the sheet's first letter (01)
pub plain_other : found_of (four acac 0 1 0) ≡ Refused 6 0
unfolding found_of wrong_marks stranded
plain_other = refl

pub letter_none : found_of (A ∷ A ∷ four (A ∷ C ∷ N ∷ C ∷ []) 0 0 1) ≡ Refused 3 2
unfolding found_of wrong_marks stranded
letter_none = refl

-- "5 for fewer than 8 bytes", and the way back held against the bytes there (01)
pub too_few : found_of [] ≡ Refused 5 0
unfolding found_of
too_few = refl

pub out_of_reach : found_of (C ∷ A ∷ C ∷ 4 ∷ 0 ∷ 0 ∷ 0 ∷ 0 ∷ 1 ∷ 0x52 ∷ 0x47 ∷ []) ≡ Refused 5 0
unfolding found_of wrong_marks stranded
out_of_reach = refl

-- two sheets walked, and a byte in front of a sheet
pub two_walked : walk_of (gattaca_sheet ++ four acac 1 0 1) ≡ through (gattaca_sheet ∷ four acac 1 0 1 ∷ [])
unfolding walk_of found_of wrong_marks stranded is_key deposit verdict key key_start strand lowest start reading facing_table facing opposite
two_walked = refl

pub byte_in_front : walked_of (N ∷ gattaca_sheet) ≡ record { number = 5; place = 0; sheets = 0 }
unfolding walk_of found_of wrong_marks stranded is_key deposit verdict key key_start strand lowest start reading facing_table facing opposite
byte_in_front = refl
