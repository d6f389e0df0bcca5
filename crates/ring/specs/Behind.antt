-- What a scan that found a factor has read of the slice behind it.
-- Assumes nothing.
use Rattle.std.specs.Prelude.{true, false, cond, ℕ, ◌-◌, ltb}
use Rattle.ring.specs.declared.factor.Behind.{Behind}

-- before a search: the first letter alone is a word, and a run may begin there
abbrev pub none_read : Behind
none_read = record { read = 1; back = 0; head = true }

-- the letters of its own run, where the letter expected stands behind the factor; else the search begins anew, and so does a run
abbrev pub behind_of : ℕ → ℕ → ℕ → Behind
behind_of size read back = cond (ltb back size) (record { read = 1; back = 0; head = true }) (record { read = read - size; back = back - size; head = false })
