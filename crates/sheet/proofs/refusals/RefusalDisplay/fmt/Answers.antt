-- The texts that the search does not find written: the write of the number and that of the reason, joined.
use Rattle.std.proofs.Common.{refl}
use Rattle.std.proofs.lemmas.Grind.{put_two}
use Rattle.sheet.proofs.refusals.RefusalDisplay.fmt.Goals as goal

pub returns-in-TooManyLetters-clause-writes : goal.returns-in-TooManyLetters-clause-writes
returns-in-TooManyLetters-clause-writes g c = λ plain ok.
    let number = c.in_ok-write.ensures.writes plain refl in
    put_two _ _ _ _ _ _ _ number (c.write_str-in-TooManyLetters.ensures.writes number.plain ok) (rw (c.number.ensures, c.in-TooManyLetters.is) refl)

pub returns-in-NoRoom-clause-writes : goal.returns-in-NoRoom-clause-writes
returns-in-NoRoom-clause-writes g c = λ plain ok.
    let number = c.in_ok-write.ensures.writes plain refl in
    put_two _ _ _ _ _ _ _ number (c.write_str-in-NoRoom.ensures.writes number.plain ok) (rw (c.number.ensures, c.in-NoRoom.is) refl)
