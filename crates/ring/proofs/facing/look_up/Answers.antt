-- `ring::facing::look_up` meets its contract: the table is the one of the definition, by computation.
use Rattle.words.specs.Keys.Facing.{facing_table}
use Rattle.words.proofs.Keys.Facing.{facing_at}
use Rattle.ring.proofs.facing.look_up.Goals as goal

pub returns : goal.returns
unfolding facing_table
returns c = facing_at _ c.ranges.a.fits
