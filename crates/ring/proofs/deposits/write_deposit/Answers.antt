-- `ring::deposits::write_deposit` meets its contract.
use Rattle.std.proofs.Common.{length, sym}
use Rattle.ring.proofs.AsKey.{deposit_fits}
use Rattle.ring.proofs.deposits.write_deposit.Goals as goal

pub put_deposit-requires : goal.put_deposit-requires
put_deposit-requires c =
    let r = c.args in deposit_fits r.kind r.letters.now r.start r.strand (length r.room.now) (sym c.in_ok-strand.ensures.value)
