-- What `fasta::base::Bases::look_up` reads from the table is the byte's base.
-- Assumes nothing.
use Rattle.std.proofs.Common.{rules, arith, sym, ◌∙◌}
use Rattle.fasta.proofs.Bases.{base_at}
use Rattle.fasta.proofs.base.Bases.look_up.Goals as goal

pub returns-in-0 : goal.returns-in-0
returns-in-0 c = sym (base_at c.args.b (search rules)) ∙ (rw c.args.self.now.laid at c.in-0.is)

pub returns-in_default : goal.returns-in_default
returns-in_default c = (rw c.args.self.now.laid (base_at c.args.b (search rules)), omega arith)
