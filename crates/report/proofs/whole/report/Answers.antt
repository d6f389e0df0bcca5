-- The place of a refusal is small.
use Rattle.std.proofs.Common.{ap, false, arith}
use Rattle.report.proofs.Printed.{place_small}
use Rattle.report.proofs.whole.report.Goals as goal

pub overflow_cast-numbers : goal.overflow_cast-numbers
overflow_cast-numbers c =
    omega (arith, ap (λ a. a.place) c.in-Err.ensures.judged, place_small 1 c.without_line_feed.result.now false)
