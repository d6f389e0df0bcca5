-- Two outcomes of a public call that both meet its contract are equal: the answer, and every lent table or room afterwards.
-- `Post` is the contract itself, as the check reads it from the source: of the arguments, the answer, and what is lent at exit.
-- Assumes nothing.
use mathlib.Core.Path.{◌≡◌}
use Rattle.words.proofs.Order.Search.{promised_one}
use Rattle.ring.proofs.ToldLaws.{marks_one}
use Rattle.sheet.proofs.ToldLaws.{check_one, sheet_one, walk_one}
use contract.Lifetimes
use borrow.Fn.World
use borrow.Fn.Kinds as Fn
use denote.Triple.Clauses
use Rattle.sheet.specs.contracts.writer.write
use Rattle.sheet.proofs.writer.write.Kinds as write-kinds
use Rattle.sheet.proofs.writer.write.Reads as write-reads
use Rattle.sheet.specs.contracts.reader.read
use Rattle.sheet.proofs.reader.read.Kinds as read-kinds
use Rattle.sheet.proofs.reader.read.Reads as read-reads
use Rattle.sheet.specs.contracts.reader.letters
use Rattle.sheet.proofs.reader.letters.Kinds as letters-kinds
use Rattle.sheet.proofs.reader.letters.Reads as letters-reads
use Rattle.sheet.specs.contracts.reader.original
use Rattle.sheet.proofs.reader.original.Kinds as original-kinds
use Rattle.sheet.proofs.reader.original.Reads as original-reads
use Rattle.sheet.specs.contracts.book.walk
use Rattle.sheet.proofs.book.walk.Kinds as walk-kinds
use Rattle.sheet.proofs.book.walk.Reads as walk-reads

pub write_determined : (κs : Lifetimes.Lfts 2) (a : World.ArgsD write.signature κs) (r s : World.ResD write.signature κs) (e f : Clauses.AtExit (Fn.ended_of 2 write-kinds.ps write-kinds.r) κs)
    → write-reads.Post κs a r e → write-reads.Post κs a s f → (r ≡ s) × (e.1.1.0.now ≡ f.1.1.0.now)
write_determined κs a r s e f p q = (marks_one r s (promised_one p.0 q.0), promised_one p.1 q.1)

pub read_determined : (κs : Lifetimes.Lfts 1) (a : World.ArgsD read.signature κs) (r s : World.ResD read.signature κs) (e f : Clauses.AtExit (Fn.ended_of 1 read-kinds.ps read-kinds.r) κs)
    → read-reads.Post κs a r e → read-reads.Post κs a s f → r ≡ s
read_determined κs a r s e f p q = sheet_one r s (promised_one p.0 q.0)

pub letters_determined : (κs : Lifetimes.Lfts 1) (a : World.ArgsD letters.signature κs) (r s : World.ResD letters.signature κs) (e f : Clauses.AtExit (Fn.ended_of 1 letters-kinds.ps letters-kinds.r) κs)
    → letters-reads.Post κs a r e → letters-reads.Post κs a s f → (r.now ≡ s.now) × (r.ref_ptr.0 ≡ s.ref_ptr.0) × (r.ref_ptr.1 ≡ s.ref_ptr.1)
letters_determined κs a r s e f p q = (promised_one p.0 q.0, promised_one p.1.0 q.1.0, promised_one p.1.1 q.1.1)

pub original_determined : (κs : Lifetimes.Lfts 2) (a : World.ArgsD original.signature κs) (r s : World.ResD original.signature κs) (e f : Clauses.AtExit (Fn.ended_of 2 original-kinds.ps original-kinds.r) κs)
    → original-reads.Post κs a r e → original-reads.Post κs a s f → (r ≡ s) × (e.1.0.now ≡ f.1.0.now)
original_determined κs a r s e f p q = (check_one r s (promised_one p.0 q.0), promised_one p.1 q.1)

pub walk_determined : (κs : Lifetimes.Lfts 1) (a : World.ArgsD walk.signature κs) (r s : World.ResD walk.signature κs) (e f : Clauses.AtExit (Fn.ended_of 1 walk-kinds.ps walk-kinds.r) κs)
    → walk-reads.Post κs a r e → walk-reads.Post κs a s f → r ≡ s
walk_determined κs a r s e f p q = walk_one r s (promised_one p.0 q.0)
