-- The letters that the trailer points to stand within the lent bytes, by `FromFound`.
use Rattle.std.proofs.Common.{rules}
use Rattle.sheet.proofs.FromFound.{told_fits}
use Rattle.sheet.proofs.reader.letters.Goals as goal

pub overflow_add-result : goal.overflow_add-result
overflow_add-result c = let h = told_fits c.args.bytes.now _ _ _ c.in-Ok.ensures in search rules

pub slice_bounds-result-end-2 : goal.slice_bounds-result-end-2
slice_bounds-result-end-2 c = let h = told_fits c.args.bytes.now _ _ _ c.in-Ok.ensures in search rules
