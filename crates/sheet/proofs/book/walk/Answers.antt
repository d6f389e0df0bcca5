-- The loop's steps, by `Walking`.
use Rattle.sheet.proofs.Walking.{walking_first, size_before, walking_less, walking_on}
use Rattle.sheet.proofs.book.walk.Goals as goal

pub loop-rest-init : goal.loop-rest-init
loop-rest-init c = walking_first _

pub slice_bounds-rest-end : goal.slice_bounds-rest-end
slice_bounds-rest-end c = size_before _ _ _ _ c.in-Ok.ensures

pub loop-rest-smaller : goal.loop-rest-smaller
loop-rest-smaller c = walking_less _ _ _ _ c.in-Ok.ensures

pub loop-rest-preserved : goal.loop-rest-preserved
loop-rest-preserved c = walking_on _ _ _ _ c.in-Ok.ensures c.args.book.now _ c.loop-rest.invariant
