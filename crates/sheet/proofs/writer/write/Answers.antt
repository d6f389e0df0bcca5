-- The key's letters in the space before the trailer's, and the trailer behind them, by `Writing`.
use Rattle.std.proofs.Common.{◌++◌, refl, ap, ◌∙◌, drop, length-drop, rules}
use Rattle.std.proofs.Math.ListN.{length-take, take-append-drop}
use borrow.Author.Tests.{eqb-false}
use Rattle.ring.proofs.ToldLaws.{refused}
use Rattle.std.proofs.lemmas.Result.{err_from_is_err_and}
use Rattle.sheet.proofs.Writing.{write_answer, write_refused, write_fits, write_done}
use Rattle.sheet.proofs.writer.write.Goals as goal

pub returns-in_err-m-clause-room_after : goal.returns-in_err-m-clause-room_after
returns-in_err-m-clause-room_after c =
    let o = write_refused c.args.kind c.args.ring.now c.args.room.now _ c.saturating_sub-space.ensures
    _ c.in_err-m.ensures.value _ c.in_err-m.ensures.room_after (eqb-false _ 0 (refused _)) in
    ap (λ x. x ++ drop c.saturating_sub-space.result c.args.room.now) o.0 ∙ take-append-drop c.saturating_sub-space.result c.args.room.now ∙ o.1

pub returns-in_err-m-clause-value : goal.returns-in_err-m-clause-value
returns-in_err-m-clause-value c =
    let e = err_from_is_err_and c.from_residual.result c.from_residual.ensures.1 in rw (e.1, e.2)
    (write_answer c.args.kind c.args.ring.now c.args.room.now _ c.saturating_sub-space.ensures _ c.in_err-m.ensures.value _ c.in_err-m.ensures.room_after)

pub slice_bounds-put_trailer-count : goal.slice_bounds-put_trailer-count
slice_bounds-put_trailer-count c =
    let h = write_fits c.args.kind c.args.ring.now c.args.room.now _ c.saturating_sub-space.ensures
    _ c.in_ok-m.ensures.value _ c.in_ok-m.ensures.room_after refl in
    search rules

pub slice_bounds-put_trailer-start : goal.slice_bounds-put_trailer-start
slice_bounds-put_trailer-start c =
    let h = write_fits c.args.kind c.args.ring.now c.args.room.now _ c.saturating_sub-space.ensures
    _ c.in_ok-m.ensures.value _ c.in_ok-m.ensures.room_after refl in
    search rules

pub put_trailer-requires : goal.put_trailer-requires
put_trailer-requires c =
    let h = write_fits c.args.kind c.args.ring.now c.args.room.now _ c.saturating_sub-space.ensures
    _ c.in_ok-m.ensures.value _ c.in_ok-m.ensures.room_after refl in
    simp (length-take, length-drop) (search rules)

pub returns-clause-room_after : goal.returns-clause-room_after
returns-clause-room_after c =
    write_done c.args.kind c.args.ring.now c.args.room.now _ c.saturating_sub-space.ensures
    _ c.in_ok-m.ensures.value _ c.in_ok-m.ensures.room_after refl _ _ refl c.put_trailer.ensures
