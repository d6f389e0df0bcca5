-- Whatever meets a public call's contract is the call of `specs/Calls` of the same name: so the theorems of `Demands` are about the calls, and
-- about an answer as it is told in 01's numbers (`specs/Told`).
-- `Post` is the contract itself, as the check reads it from the source: of the arguments, the answer, and what is lent at exit.
-- Assumes nothing.
use contract.Lifetimes
use borrow.Fn.World
use borrow.Fn.Kinds as Fn
use denote.Triple.Clauses
use Rattle.sheet.specs.Calls.{WriteCall, ReadCall, LettersCall, OriginalCall, WalkCall}
use Rattle.ring.specs.Told.{told_marks}
use Rattle.sheet.specs.Told.{told_check, told_sheet, told_walk}
use Rattle.sheet.specs.contracts.writer.write
use Rattle.sheet.proofs.writer.write.Kinds as write-kinds
use Rattle.sheet.proofs.writer.write.Reads as write-reads
use Rattle.sheet.specs.contracts.reader.read
use Rattle.sheet.proofs.reader.read.Kinds as read-kinds
use Rattle.sheet.proofs.reader.read.Reads as read-reads
use Rattle.sheet.specs.contracts.reader.letters
use Rattle.sheet.proofs.reader.letters.Kinds as letters-kinds
use Rattle.sheet.proofs.reader.letters.Reads as letters-reads
use Rattle.sheet.specs.contracts.reader.original
use Rattle.sheet.proofs.reader.original.Kinds as original-kinds
use Rattle.sheet.proofs.reader.original.Reads as original-reads
use Rattle.sheet.specs.contracts.book.walk
use Rattle.sheet.proofs.book.walk.Kinds as walk-kinds
use Rattle.sheet.proofs.book.walk.Reads as walk-reads

pub write_call : (κs : Lifetimes.Lfts 2) (a : World.ArgsD write.signature κs) (r : World.ResD write.signature κs) (e : Clauses.AtExit (Fn.ended_of 2 write-kinds.ps write-kinds.r) κs)
    → write-reads.Post κs a r e → WriteCall a.0.now a.1.0 a.1.1.0.now (told_marks r) e.1.1.0.now
write_call κs a r e p = record { answer = p.0; leaves = p.1 }

pub read_call : (κs : Lifetimes.Lfts 1) (a : World.ArgsD read.signature κs) (r : World.ResD read.signature κs) (e : Clauses.AtExit (Fn.ended_of 1 read-kinds.ps read-kinds.r) κs)
    → read-reads.Post κs a r e → ReadCall a.0.now (told_sheet r)
read_call κs a r e p = record { answer = p.0; bytes = p.1 }

pub letters_call : (κs : Lifetimes.Lfts 1) (a : World.ArgsD letters.signature κs) (r : World.ResD letters.signature κs) (e : Clauses.AtExit (Fn.ended_of 1 letters-kinds.ps letters-kinds.r) κs)
    → letters-reads.Post κs a r e → LettersCall a.0.now a.0.ref_ptr r.now r.ref_ptr
letters_call κs a r e p = record { is = p.0; block = p.1.0; stands = p.1.1 }

pub original_call : (κs : Lifetimes.Lfts 2) (a : World.ArgsD original.signature κs) (r : World.ResD original.signature κs) (e : Clauses.AtExit (Fn.ended_of 2 original-kinds.ps original-kinds.r) κs)
    → original-reads.Post κs a r e → OriginalCall a.0.now a.1.0.now (told_check r) e.1.0.now
original_call κs a r e p = record { answer = p.0; leaves = p.1 }

pub walk_call : (κs : Lifetimes.Lfts 1) (a : World.ArgsD walk.signature κs) (r : World.ResD walk.signature κs) (e : Clauses.AtExit (Fn.ended_of 1 walk-kinds.ps walk-kinds.r) κs)
    → walk-reads.Post κs a r e → WalkCall a.0.now (told_walk r)
walk_call κs a r e p = record { answer = p.0; bytes = p.1 }
