-- `walk` ends: what remains has fewer bytes than what was read.
use Rattle.std.proofs.Common.{rules}
use Rattle.fasta.proofs.Demands.{rest_shorter}
use Rattle.fasta_cases.proofs.walk.walk.Goals as goal

pub loop-left-smaller : goal.loop-left-smaller
loop-left-smaller c =
    let e = c.rest-left.ensures in
    rest_shorter (record { is = e.value; block = e.place.0; stands = e.place.1 }) (search rules)
