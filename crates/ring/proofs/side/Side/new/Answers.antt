-- `ring::side::Side::new` meets its contract.
use Rattle.words.proofs.Keys.Strand.{length-strand}
use Rattle.ring.specs.Numbered.{strand_number}
use Rattle.ring.proofs.side.Side.new.Goals as goal

pub returns-clause-as_long : goal.returns-clause-as_long
returns-clause-as_long c = length-strand (strand_number c.args.strand) c.args.letters.now
