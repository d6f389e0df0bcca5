-- `ring::factor::first_run` meets its contract: the run from the scan that found its factor.
use Rattle.words.proofs.Factors.Scan.{scan_first, factor_run}
use Rattle.ring.proofs.factor.first_run.Goals as goal

pub first_factor-f-requires : goal.first_factor-f-requires
first_factor-f-requires c = rw c.none_read.ensures (scan_first _ c.requires)

pub returns : goal.returns
returns c = factor_run _ _ _ _ c.first_factor-f.ensures
