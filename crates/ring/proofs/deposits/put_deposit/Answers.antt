-- `ring::deposits::put_deposit` meets its contract: the deposit is one reading of the letters.
use Rattle.std.proofs.Common.{◌≡◌, refl, ◌∙◌, arith}
use Rattle.words.specs.Rings.Ring.{reading}
use Rattle.words.specs.Keys.Strand.{on_strand}
use Rattle.ring.specs.Answers.{deposit}
use Rattle.ring.specs.Numbered.{strand_number}
use Rattle.ring.proofs.Deposit.{deposit_other, deposit_own}
use Rattle.ring.proofs.deposits.put_deposit.Goals.{in-Given, in-Opposite}
use Rattle.ring.proofs.deposits.put_deposit.Goals as goal

pub put_reading-requires : goal.put_reading-requires
put_reading-requires c =
    (elim c.match-strand.branch [ in-Given w ↦ omega arith | in-Opposite w ↦ omega arith ], omega arith)

pub returns : goal.returns
returns c =
    let r = c.args in
    let d : reading (on_strand (strand_number r.strand) r.letters.now) c.match-strand.at ≡ deposit r.letters.now r.start (strand_number r.strand) =
    elim c.match-strand.branch [
      | in-Given w ↦ rw (w.at-is, w.in-Given.is, deposit_own r.letters.now r.start 0 (λ e. omega arith)) refl
      | in-Opposite w ↦ rw (w.at-is, w.in-Opposite.is, deposit_other r.letters.now r.start 1 refl c.requires.0) refl
    ] in
    c.put_reading.ensures ∙ rw (c.new.ensures.value, d) refl
