-- The table of `fasta::base::Bases::new` is what it is laid out as, by computation.
-- Assumes nothing.
use Rattle.std.proofs.Common.{refl}
use Rattle.fasta.specs.Lines.{upper}
use Rattle.fasta.specs.Bases.{base_of, base_table}
use Rattle.fasta.proofs.base.Bases.new.Goals as goal

pub invariant_of-result : goal.invariant_of-result
unfolding base_table base_of upper
invariant_of-result c = record { laid = refl }
