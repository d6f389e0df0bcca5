-- `fasta::reader::record` where no header is found, by `Replies`.
-- Assumes nothing.
use Rattle.std.proofs.Common.{◌≡◌, Result, Ok, Err, ap, ◌∙◌}
use Rattle.std.specs.Result.{IsErrAnd}
use Rattle.fasta.specs.declared.answer.Taken.{Taken}
use Rattle.fasta.specs.declared.answer.Refused.{Refused}
use Rattle.fasta.proofs.Replies.{none_record}
use Rattle.fasta.proofs.reader.record.Goals as goal

-- a refusal that is passed on
passed_on : {K : Type 0} (x : Result Taken Refused) (e f : Refused) → IsErrAnd x (λ y. y ≡ e) → ◌≡◌ {A = Result K Refused} (Err e) (Err f) → x ≡ Err f
passed_on (Ok t) e f h q = absurd h
passed_on (Err d) e f h q = let r : e ≡ f = cc q in ap Err (h ∙ r)

pub returns-in_err-head : goal.returns-in_err-head
returns-in_err-head c =
    let none = c.in_err-head.ensures.ok_part in
    let e = rw none at c.in_err-head.ensures.value in
    let h = rw none at c.find_header_line.ensures in
    let a = none_record _ h c.args.room.now in
    let q = passed_on c.from_residual.result c.in_err-head.field-0.0 _ c.from_residual.ensures.1 e in
    record { value = rw q a.0; room_after = a.1 }
